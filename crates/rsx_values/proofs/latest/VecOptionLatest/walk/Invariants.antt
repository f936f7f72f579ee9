use Rattle.std.proofs.Common.{◌≡◌}
use Rattle.std.specs.Vec.Iter.{into_iter_items}
use Rattle.rsx_types.specs.Stream.{items_then}
use Rattle.rsx_values.specs.Latest.{walk}
use Rattle.rsx_values.proofs.latest.VecOptionLatest.walk.Given as goal

abbrev pub invariant-loop-number : goal.invariant-loop-number
invariant-loop-number g l =
    let row = (g.O.Ops.meaning l.ops).row_of in
    items_then l.rows.items (walk row l.self.items l.left (into_iter_items l.number-iterator)) ≡ walk row l.fn.self.items l.fn.left l.fn.taken.items
