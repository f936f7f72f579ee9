use Rattle.std.proofs.Common.{◌≡◌}
use Rattle.rsx_gate.specs.Seats.{IsSeatOf}
use Rattle.test_workers.proofs.visits.add_one.Given as goal

abbrev pub invariant-loop : goal.invariant-loop
invariant-loop l = IsSeatOf l.gate l.seat × (l.seat.me.0.parts ≡ l.initial.seat.me.0.parts)
