use Rattle.std.proofs.Common.{◌≡◌}
use Rattle.rsx_gate.specs.Seats.{IsSeatOf}
use Rattle.rsx_runtime.specs.Poking.{IsAmong}
use Rattle.rsx_runtime.proofs.worker.work.Given as goal

abbrev pub invariant-loop : goal.invariant-loop
invariant-loop g l = record {
  seat : IsAmong l.live.gates.items l.region (λ x. IsSeatOf x l.seat);
  parts : l.seat.me.0.parts ≡ l.initial.seat.me.0.parts;
}
