use Rattle.std.proofs.Common.{rules, ◌≡◌, ap, ◌∙◌, arith}
use Rattle.rsx_gate.specs.declared.view.View.{View}
use Rattle.rsx_runtime.proofs.Seats.{round_steps, round_view}
use Rattle.rsx_serialized.proofs.serialized.visit.Goals as goal

pub loop-round-preserved : goal.loop-round-preserved
loop-round-preserved g c =
    let m = c.mark_held.ensures.marked.0 in
    let l = c.if-leave_held.ensures in
    let view = round_view c.loop-round.seat.me.0 c.mark_held.new.seat.me.0 c.serve_held.new.seat.me.0 c.leave_held.new.seat.me.0 m.0 m.2.2 c.serve_held.ensures.steps l.0.0.2 in record {
      parts = ap (λ (v : View _). v.parts) view ∙ c.loop-round.invariant.parts;
      steps = round_steps c.loop-round.round c.take.new.seat.me.0.steps c.loop-round.seat.me.0.steps c.leave_held.new.seat.me.0.steps m.0 m.1 c.loop-round.invariant.steps (ap (λ (v : View _). v.steps) view);
      holds = l.1;
    }

-- the loop has ended, so all rounds were made
pub returns-clause-steps : goal.returns-clause-steps
returns-clause-steps g c =
    let all : c.loop-round.round ≡ 8 = omega (arith, c.loop-round.auto.round-end, c.loop-round-test.false) in
    (c.loop-round.round, c.release-2.ensures.0.0, c.loop-round.seat.me.0.steps, search rules, search rules, all, search rules)

pub leave_held-requires-after_bounds : goal.leave_held-requires-after_bounds
leave_held-requires-after_bounds g c κs within = c.serve_held.ensures.rests c.in-Idle.is
