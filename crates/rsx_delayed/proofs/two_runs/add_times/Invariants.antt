use Rattle.std.proofs.Common.{◌≡◌, ◌++◌}
use Rattle.rsx_values.specs.Record.{times}
use Rattle.rsx_delayed.proofs.two_runs.add_times.Given as goal

abbrev pub invariant-loop : goal.invariant-loop
invariant-loop l = l.numbers.items ≡ l.fn.numbers.items ++ times l.counter l.number
