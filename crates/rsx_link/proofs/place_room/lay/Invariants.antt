use Rattle.std.proofs.Common.{◌≡◌, ◌≤◌, ◌+◌, ◌++◌, length, map, reverse}
use Rattle.std.specs.Vec.{vec_capacity}
use Rattle.rsx_link.specs.declared.place.Place.TheVariants.{Free}
use Rattle.rsx_link.proofs.place_room.lay.Given as goal

abbrev pub invariant-loop-one : goal.invariant-loop-one
invariant-loop-one g l = record {
  all : l.slots.items ++ map Free (reverse l.ends.items) ≡ map Free l.fn.ends.items;
  room : length l.slots.items + length l.ends.items ≤ vec_capacity l.slots;
  kept : vec_capacity l.ends ≡ vec_capacity l.fn.ends;
}

abbrev pub decreases-loop-one : goal.decreases-loop-one
decreases-loop-one g l = length l.ends.items
