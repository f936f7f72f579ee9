use Rattle.rsx_gate.specs.Seats.{IsSeatOf}
use Rattle.bench_parts.proofs.gate.visit_often.Given as goal

abbrev pub invariant-loop : goal.invariant-loop
invariant-loop l = IsSeatOf l.gate l.seat
