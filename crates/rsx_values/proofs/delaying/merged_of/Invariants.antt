use Rattle.std.proofs.Common.{◌≡◌, None}
use Rattle.std.specs.Vec.Iter.{into_iter_items}
use Rattle.rsx_types.specs.Stream.{items_then}
use Rattle.rsx_values.specs.Delayed.{merged_delayed}
use Rattle.rsx_values.proofs.delaying.merged_of.Given as goal

abbrev pub invariant-loop-signal : goal.invariant-loop-signal
invariant-loop-signal g l = items_then l.items.items (merged_delayed l.left l.kept (into_iter_items l.signal-iterator)) ≡ merged_delayed l.fn.left None l.fn.taken.items
