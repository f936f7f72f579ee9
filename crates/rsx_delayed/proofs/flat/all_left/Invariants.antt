use Rattle.std.proofs.Common.{◌≡◌, ◌++◌, map}
use Rattle.std.specs.Vec.Iter.{into_iter_items}
use Rattle.rsx_types.specs.Stream.{signals}
use Rattle.rsx_delayed.proofs.FlatLeft.{signals_left}
use Rattle.rsx_delayed.proofs.flat.all_left.Given as goal

abbrev pub invariant-loop-lane : goal.invariant-loop-lane
invariant-loop-lane g l = map signals l.values.items ++ signals_left (into_iter_items l.lane-iterator) ≡ signals_left l.fn.lanes
