use Rattle.std.proofs.Common.{◌≡◌}
use Rattle.std.specs.Vec.Iter.{into_iter_items}
use Rattle.rsx_types.specs.Stream.{items_then}
use Rattle.rsx_values.specs.Merge.{merged}
use Rattle.rsx_values.proofs.merging.merged_of.Given as goal

abbrev pub invariant-loop-signal : goal.invariant-loop-signal
invariant-loop-signal g l = items_then l.items.items (merged l.left (into_iter_items l.signal-iterator)) ≡ merged l.fn.left l.fn.taken.items
