use Rattle.std.proofs.Common.{◌≡◌, take}
use Rattle.rsx_values.specs.Record.{written}
use Rattle.rsx_delayed.proofs.two_runs.TwoRuns.choices.Given as goal

abbrev pub invariant-loop-run : goal.invariant-loop-run
invariant-loop-run l = l.numbers.items ≡ written (take l.run-index l.run-items)
