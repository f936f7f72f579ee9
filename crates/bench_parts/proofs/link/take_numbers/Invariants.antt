use Rattle.std.proofs.Common.{◌≤◌, ◌-◌}
use Rattle.rsx_link.specs.Ends.{IsDownOf}
use Rattle.bench_parts.proofs.link.take_numbers.Given as goal

abbrev pub invariant-loop : goal.invariant-loop
invariant-loop l = IsDownOf l.link l.down × (l.since ≤ l.mode.batch - 1)
