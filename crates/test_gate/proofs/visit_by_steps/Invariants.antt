use Rattle.std.proofs.Common.{◌≡◌, ◌≤◌}
use Rattle.rsx_gate.specs.Seats.{Holds, key_of}
use Rattle.test_gate.specs.Outcome.{AfterRounds}
use Rattle.test_gate.specs.declared.Count.{Count}
use Rattle.test_gate.proofs.visit_by_steps.Given as goal

abbrev pub invariant-loop-round : goal.invariant-loop-round
invariant-loop-round l = (l.seat.me.0.parts ≡ l.initial.seat.me.0.parts) × AfterRounds l.round l.initial.seat.me.0.steps l.seat.me.0.steps
    × ((x : Count) × Holds l.gate l.seat x × (key_of l.gate ≤ x.0))
