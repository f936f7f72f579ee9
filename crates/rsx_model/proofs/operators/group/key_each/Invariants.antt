use Rattle.std.proofs.Common.{◌≡◌, []}
use Rattle.std.specs.Vec.Iter.{into_iter_items}
use Rattle.rsx_types.specs.Stream.{items_then}
use Rattle.rsx_values.specs.Group.{first_seen, keyed_items}
use Rattle.rsx_model.proofs.operators.group.key_each.Given as goal

abbrev pub invariant-loop-item : goal.invariant-loop-item
invariant-loop-item g l =
    let key = (g.O.Ops.meaning l.ops).keyed l.f in
    (items_then l.keyed.items (keyed_items key l.keys (into_iter_items l.item-iterator) l.ending) ≡ keyed_items key [] l.fn.items.items l.ending)
    × (l.keys ≡ first_seen [] l.keyed.items)
