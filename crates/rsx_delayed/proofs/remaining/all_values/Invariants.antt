use Rattle.std.proofs.Common.{◌≡◌, length}
use Rattle.std.specs.Vec.Iter.{into_iter_items}
use Rattle.rsx_types.specs.Stream.{items_then}
use Rattle.rsx_delayed.specs.Rest.{all_values}
use Rattle.rsx_delayed.proofs.remaining.all_values.Given as goal

abbrev pub invariant-loop-value : goal.invariant-loop-value
invariant-loop-value g l = items_then l.all.items (all_values l.left l.first (into_iter_items l.value-iterator)) ≡ all_values (length l.fn.values.items) l.fn.kept l.fn.values.items
