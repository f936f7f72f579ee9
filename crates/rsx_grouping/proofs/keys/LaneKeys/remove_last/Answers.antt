use Rattle.std.proofs.Common.{rules, ◌≡◌, subst, ◌++◌, ◌∷◌, []}
use Rattle.rsx_grouping.specs.Keys.{IsAt, IsGapFor}
use Rattle.rsx_grouping.proofs.Index.{last_there, index_less}
use Rattle.rsx_grouping.proofs.keys.LaneKeys.remove_last.Goals as goal

pub invariant_of-self-in-Ok : goal.invariant_of-self-in-Ok
invariant_of-self-in-Ok c =
    let keys : c.self.inside.keys.items ≡ c.pop.new.self.items ++ c.in-Some.key ∷ [] = search rules in
    let there = subst (λ es. IsAt es c.in-Some.key c.in-Ok.at) c.as_slice.ensures.value c.in-Ok.ensures.found in
    rw c.remove-numbered.ensures.items (index_less c.pop.new.self.items c.in-Some.key c.self.inside.sorted.items (rw keys at c.self.invariant) c.in-Ok.at there)

pub invariant_of-self-in_default-search : goal.invariant_of-self-in_default-search
invariant_of-self-in_default-search c =
    let keys : c.self.inside.keys.items ≡ c.pop.new.self.items ++ c.in-Some.key ∷ [] = search rules in
    let gap = subst (λ es. IsGapFor es c.in-Some.key c.in_default-search.field-0) c.as_slice.ensures.value c.in_default-search.ensures.absent in
    absurd (last_there c.pop.new.self.items c.in-Some.key c.self.inside.sorted.items (rw keys at c.self.invariant) c.in_default-search.field-0 gap)
