use Rattle.std.proofs.Common.{refl, subst}
use Rattle.rsx_region.specs.Joins.{CanEnd, CanGoOn}
use Rattle.rsx_region.specs.declared.piece.Incoming.{Incoming}
use Rattle.rsx_region.proofs.Halving.{last_is}
use Rattle.rsx_region.proofs.halves.way.Goals as goal

pub returns-then-can_go_on-clause-going : goal.returns-then-can_go_on-clause-going
returns-then-can_go_on-clause-going g c = λ others last ins goes.
    let P : Incoming _ → Type 0 = λ l. CanGoOn g.N.Machine g.N.CrossingNodes c.args.part.now c.args.at l c.args.lower.now in
    subst P (last_is c.args.inlets.now others last c.in-Some.last.now _ ins c.in-Some.ensures.value refl) (c.can_go_on.ensures.yes c.if-can_go_on.true)

pub returns-then-can_end-clause-ended : goal.returns-then-can_end-clause-ended
returns-then-can_end-clause-ended g c = λ others last ins over.
    let P : Incoming _ → Type 0 = λ l. CanEnd g.N.Machine g.N.CrossingNodes c.args.part.now c.args.at l c.args.lower.now in
    subst P (last_is c.args.inlets.now others last c.in-Some.last.now _ ins c.in-Some.ensures.value refl) (c.can_end.ensures.yes c.if-can_end.true)
