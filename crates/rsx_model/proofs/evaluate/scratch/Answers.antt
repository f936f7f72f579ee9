use Rattle.std.proofs.Common.{◌≡◌, length, sym, arith}
use Rattle.rsx_model.specs.Shape.{nodes, leaves}
use Rattle.rsx_model.specs.Eval.{environment}
use Rattle.rsx_model.specs.Kinds.{AreNoted}
use Rattle.rsx_model.proofs.Noted.{unnoted}
use Rattle.rsx_model.proofs.Unfold.{sound}
use Rattle.rsx_model.proofs.evaluate.scratch.Goals as goal

pub returns-then-leaves_of-joins : goal.returns-then-leaves_of-joins
returns-then-leaves_of-joins g c =
    let s = sound (length c.args.hubs.now) c.args.expr.now (sym c.in-None.ensures) in
    (sym c.in-None.ensures, λ complete. absurd (omega (arith, s.few_leaves, c.leaves_of.ensures, complete.1)))

pub value_of-requires-clause-joined : goal.value_of-requires-clause-joined
value_of-requires-clause-joined g c κs within =
    let s = sound (length c.args.hubs.now) c.args.expr.now (sym c.in-None.ensures) in
    omega (arith, s.few_leaves, c.leaves_of.ensures, c.if-leaves_of-joins.false)

pub returns-in-Ok : goal.returns-in-Ok
returns-in-Ok g c =
    let e = c.args.expr.now in
    let s = sound (length c.args.hubs.now) e (sym c.in-None.ensures) in
    let noted : length c.args.notes.now ≡ nodes e = omega (arith, s.small, c.nodes_of.ensures) in
    let joined : length c.args.joins.now ≡ leaves e = omega (arith, s.few_leaves, c.leaves_of.ensures) in
    (sym c.in-None.ensures, (noted, joined), c.in-Ok.ensures)

pub returns-then-not-are_noted : goal.returns-then-not-are_noted
returns-then-not-are_noted g c =
    let w = environment (g.O.Ops.meaning c.args.ops.now) c.args.hubs.now c.args.joins.now c.args.notes.now in
    let no : AreNoted c.args.expr.now c.args.notes.now → ⊥ = λ noted. let is = c.are_noted.ensures.no noted in let not = c.if-not-are_noted.true in cc in
    (sym c.in-None.ensures, λ complete. unnoted w c.args.expr.now complete.0 no)

pub returns-in-Err-OutOfMemory : goal.returns-in-Err-OutOfMemory
returns-in-Err-OutOfMemory g c =
    let e = c.args.expr.now in
    let s = sound (length c.args.hubs.now) e (sym c.in-None.ensures) in
    let noted : length c.args.notes.now ≡ nodes e = omega (arith, s.small, c.nodes_of.ensures) in
    let joined : length c.args.joins.now ≡ leaves e = omega (arith, s.few_leaves, c.leaves_of.ensures) in
    (sym c.in-None.ensures, (noted, joined), c.are_noted.ensures.yes c.if-not-are_noted.false)
