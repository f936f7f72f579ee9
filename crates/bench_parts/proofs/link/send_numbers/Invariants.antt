use Rattle.rsx_link.specs.Ends.{IsUpOf}
use Rattle.bench_parts.proofs.link.send_numbers.Given as goal

abbrev pub invariant-loop : goal.invariant-loop
invariant-loop l = IsUpOf l.link l.up
