use Rattle.std.proofs.Common.{◌≡◌, drop}
use Rattle.rsx_values.specs.Prelude.{items_then, first_seen, keyed_items}
use Rattle.rsx_grouping.proofs.rest.KeyedItemsKeying.of.Given as goal

abbrev pub invariant-loop-item : goal.invariant-loop-item
invariant-loop-item g l =
    let key = (g.O.Ops.meaning l.ops).keyed l.function in
    (items_then l.keyed.items (keyed_items key l.seen (drop l.item-index l.items) l.ending) ≡ keyed_items key l.fn.keys l.items l.ending)
    × (l.seen ≡ first_seen l.fn.keys l.keyed.items)
