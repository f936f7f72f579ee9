use Rattle.std.proofs.Common.{◌≡◌, ◌++◌, length}
use Rattle.std.specs.Vec.Iter.{into_iter_items}
use Rattle.rsx_values.specs.Pick.{numbered}
use Rattle.rsx_values.proofs.delaying.merge_delay.Given as goal

abbrev pub invariant-loop-value : goal.invariant-loop-value
invariant-loop-value g l = l.inputs.items ++ numbered (length l.inputs.items) (into_iter_items l.value-iterator) ≡ numbered 0 l.fn.values.items
