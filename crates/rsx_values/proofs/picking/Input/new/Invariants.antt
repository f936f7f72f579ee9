use Rattle.std.proofs.Common.{◌≡◌, ◌++◌, map}
use Rattle.std.specs.Vec.Iter.{into_iter_items}
use Rattle.rsx_types.specs.declared.signal.Signal.TheVariants.{Next}
use Rattle.rsx_values.proofs.picking.Input.new.Given as goal

abbrev pub invariant-loop-item : goal.invariant-loop-item
invariant-loop-item g l = l.signals.items ++ map Next (into_iter_items l.item-iterator) ≡ map Next l.fn.value.items
