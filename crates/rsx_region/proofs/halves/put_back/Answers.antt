use Rattle.std.proofs.Common.{[], ◌∷◌, inl, inr, map, sym, ◌∙◌, subst}
use Rattle.rsx_sources.specs.Prelude.{Next}
use Rattle.rsx_pipe.specs.Part.{Part}
use Rattle.rsx_region.specs.Joins.{IsPutAt}
use Rattle.rsx_region.proofs.Halving.{append_none, put_at_edge, same_root}
use Rattle.rsx_region.proofs.halves.put_back.Goals as goal
use Rattle.rsx_region.proofs.halves.put_back.Goals.{in-Some, in_default}

pub returns-clause-put : goal.returns-clause-put
returns-clause-put g c = elim c.match-pour.branch [
  | in-Some w ↦
      let got = w.in-Some.ensures.some in
      let put = put_at_edge g.N.Machine g.N.CrossingNodes c.args.part.now c.rejoin.new.self c.match-pour.below c.args.at c.args.hub c.args.remaining (w.in-Some.ending ∷ c.pour.new.remaining) got.0 c.args.queue c.pour.new.queue c.rejoin.result got.1 c.requires.few c.requires.empty got.3 c.requires.takes c.rejoin.ensures.ok c.rejoin.ensures.refused in
      (got.0, inr (w.in-Some.ending, c.pour.new.remaining, c.match-pour.below, got.1, got.2, (λ m before sent. w.below-is ∙ w.put_back.ensures m before sent), put))
  | in_default w ↦
      let got = w.in_default.ensures.none in
      let put = put_at_edge g.N.Machine g.N.CrossingNodes c.args.part.now c.rejoin.new.self c.match-pour.below c.args.at c.args.hub c.args.remaining [] got.0 c.args.queue c.pour.new.queue c.rejoin.result (got.1 ∙ sym (append_none (map Next got.0))) c.requires.few c.requires.empty got.2 c.requires.takes c.rejoin.ensures.ok c.rejoin.ensures.refused in
      let P : Part _ → Type 0 = λ q. IsPutAt g.N.Machine g.N.CrossingNodes c.args.part.now c.args.at c.args.hub got.0 q c.rejoin.new.self in
      (got.0, inl (got.1, subst P w.below-is put))
]

pub returns-clause-root : goal.returns-clause-root
returns-clause-root g c = same_root g.N.CrossingNodes c.args.part.now c.rejoin.new.self c.match-pour.below c.args.at c.pour.new.queue c.rejoin.result c.rejoin.ensures.ok c.rejoin.ensures.same
