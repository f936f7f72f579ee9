use Rattle.std.proofs.Common.{rules, ◌≡◌, subst, refl, nat_eq, true, false, length, ◌++◌, ◌∷◌, []}
use Rattle.std.specs.Set.{is_member}
use Rattle.std.specs.List.{insert}
use Rattle.rsx_grouping.specs.Keys.{IsAt, IsGapFor}
use Rattle.rsx_grouping.proofs.Index.{found_there, gap_out, index_more}
use Rattle.rsx_grouping.proofs.keys.LaneKeys.add.Goals as goal

pub returns-in_default-clause-keys : goal.returns-in_default-clause-keys
returns-in_default-clause-keys c =
    let there = subst (λ es. IsAt es c.args.key c.in_default.field-0) c.as_slice.ensures.value c.in_default.ensures.found in
    let seen : is_member nat_eq c.self.inside.keys.items c.args.key ≡ true = found_there c.self.inside.keys.items c.self.inside.sorted.items c.self.invariant c.args.key c.in_default.field-0 there in
    rw (← c.self.view_is, seen) refl

pub invariant_of-self-2 : goal.invariant_of-self-2
invariant_of-self-2 c =
    let gap = subst (λ es. IsGapFor es c.args.key c.in-Err.at) c.as_slice.ensures.value c.in-Err.ensures.absent in
    let lane : c.len-lane.result ≡ length c.self.inside.keys.items = search rules in
    let keys : c.push_reserved.new.self.items ≡ c.self.inside.keys.items ++ c.args.key ∷ [] = search rules in
    let sorted : c.insert.new.self.items ≡ insert c.self.inside.sorted.items c.in-Err.at (record { key = c.args.key; lane = c.len-lane.result }) = search rules in
    rw (keys, sorted, lane) (index_more c.self.inside.keys.items c.self.inside.sorted.items c.self.invariant c.args.key c.in-Err.at gap)

pub returns-clause-keys : goal.returns-clause-keys
returns-clause-keys c =
    let gap = subst (λ es. IsGapFor es c.args.key c.in-Err.at) c.as_slice.ensures.value c.in-Err.ensures.absent in
    let out : is_member nat_eq c.self.inside.keys.items c.args.key ≡ false = gap_out c.self.inside.keys.items c.self.inside.sorted.items c.self.invariant c.args.key c.in-Err.at gap in
    let keys : c.push_reserved.new.self.items ≡ c.self.inside.keys.items ++ c.args.key ∷ [] = search rules in
    rw (← c.self.view_is, out) keys
