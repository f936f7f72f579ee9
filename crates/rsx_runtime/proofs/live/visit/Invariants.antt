use Rattle.std.proofs.Common.{◌≡◌}
use Rattle.rsx_gate.specs.Seats.{Holds}
use Rattle.rsx_runtime.specs.Poking.{AfterRounds, HasFitting}
use Rattle.rsx_runtime.proofs.live.visit.Given as goal

abbrev pub invariant-loop-round : goal.invariant-loop-round
invariant-loop-round g l = record {
  parts : l.seat.me.0.parts ≡ l.initial.seat.me.0.parts;
  steps : AfterRounds l.round l.initial.seat.me.0.steps l.seat.me.0.steps;
  holds : HasFitting g.N.Machine g.O.Ops.meaning l.gate (Holds l.gate l.seat);
}
