use Rattle.std.proofs.Common.{◌≡◌}
use Rattle.rsx_gate.specs.Seats.{IsSeatOf}
use Rattle.test_random.proofs.work.poke_times.Given as goal

abbrev pub invariant-loop : goal.invariant-loop
invariant-loop g l = IsSeatOf l.graph.gate l.seat × (l.seat.me.0.parts ≡ l.initial.seat.me.0.parts)
