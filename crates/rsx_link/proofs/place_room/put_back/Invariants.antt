use Rattle.std.proofs.Common.{◌≡◌, ◌≤◌, ◌+◌, ◌++◌, length, map, reverse}
use Rattle.std.specs.Vec.{vec_capacity}
use Rattle.rsx_link.specs.declared.place.Place.TheVariants.{Free}
use Rattle.rsx_link.proofs.place_room.put_back.Given as goal

abbrev pub invariant-loop-place : goal.invariant-loop-place
invariant-loop-place g l = record {
  all : l.slots.items ++ map Free (reverse l.ends.items) ≡ map Free l.all.value.items;
  room : length l.slots.items + length l.ends.items ≤ vec_capacity l.ends;
}

abbrev pub decreases-loop-place : goal.decreases-loop-place
decreases-loop-place g l = length l.slots.items
