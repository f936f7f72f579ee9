use Rattle.std.proofs.Common.{◌≡◌, ◌≤◌}
use Rattle.rsx_gate.specs.Seats.{Holds, key_of, seat_of, lender_of}
use Rattle.test_gate.specs.Outcome.{AfterRounds}
use Rattle.test_gate.specs.declared.Count.{Count}
use Rattle.test_gate.proofs.visit.Given as goal

abbrev pub invariant-loop-round : goal.invariant-loop-round
invariant-loop-round l = (lender_of l.pass ≡ lender_of l.initial.pass) × ((seat_of l.pass).me.0.parts ≡ (seat_of l.initial.pass).me.0.parts)
    × AfterRounds l.round (seat_of l.initial.pass).me.0.steps (seat_of l.pass).me.0.steps
    × ((x : Count) × Holds l.gate (seat_of l.pass) x × (key_of l.gate ≤ x.0))
