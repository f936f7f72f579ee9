use Rattle.std.proofs.Common.{◌≡◌}
use Rattle.std.specs.Vec.Iter.{into_iter_items}
use Rattle.rsx_types.specs.Stream.{items_then}
use Rattle.rsx_values.specs.Concat.{concat}
use Rattle.rsx_model.proofs.operators.concatenation.concat.Given as goal

abbrev pub invariant-loop-value : goal.invariant-loop-value
invariant-loop-value g l = items_then l.items.items (concat (into_iter_items l.value-iterator)) ≡ concat l.fn.values.items
