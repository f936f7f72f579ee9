use Rattle.std.proofs.Common.{◌≡◌, ◌++◌, List, length}
use Rattle.rsx_values.specs.Delayed.{all_of}
use Rattle.rsx_values.specs.Pick.{Taken}
use Rattle.rsx_values.proofs.picking.take_all.Given as goal

abbrev pub decreases-loop-signal : goal.decreases-loop-signal
decreases-loop-signal g l = length l.signals.items

abbrev pub invariant-loop-signal : goal.invariant-loop-signal
invariant-loop-signal g l = (rest : List (Taken _)) → l.out.items ++ all_of l.number l.signals.items rest ≡ l.fn.out.items ++ all_of l.fn.input.0 l.fn.input.1 rest
