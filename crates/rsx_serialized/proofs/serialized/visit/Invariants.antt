use Rattle.std.proofs.Common.{◌≡◌}
use Rattle.rsx_gate.specs.Seats.{Holds}
use Rattle.rsx_runtime.specs.Poking.{AfterRounds}
use Rattle.rsx_serialized.specs.Gates.{HasFitting}
use Rattle.rsx_serialized.proofs.serialized.visit.Given as goal

abbrev pub invariant-loop-round : goal.invariant-loop-round
invariant-loop-round g l = record {
  parts : l.seat.me.0.parts ≡ l.initial.seat.me.0.parts;
  steps : AfterRounds l.round l.initial.seat.me.0.steps l.seat.me.0.steps;
  holds : HasFitting l.gate (Holds l.gate l.seat);
}
