use Rattle.std.proofs.Common.{◌≡◌, length, map, take}
use Rattle.rsx_live_parts.specs.Cursors.{first_of, root_in}
use Rattle.rsx_live_parts.proofs.cutting.Placed.of_taps.Given as goal

abbrev pub invariant-loop-place : goal.invariant-loop-place
invariant-loop-place g l = record {
  count : l.placed.count ≡ l.count;
  beside : length l.placed.places.items ≡ l.place;
  places : l.placed.places.items ≡ map (root_in l.count l.roots) (take l.place l.taps);
  cursors : l.placed.cursors.items ≡ map first_of (take l.place l.taps);
}
