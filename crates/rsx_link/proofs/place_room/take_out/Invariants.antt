use Rattle.std.proofs.Common.{◌≡◌, ℕ, ◌<◌, ◌≤◌, false, get_or, length}
use Rattle.std.specs.Vec.{vec_capacity}
use Rattle.std.specs.Slots.{slots_filled, slots_items, slots_len}
use Rattle.std.specs.Slots.Ownership.{Filled}
use Rattle.rsx_link.specs.TakenOut.{IsTakenBelow}
use Rattle.rsx_link.proofs.place_room.take_out.Given as goal

abbrev pub invariant-loop-at : goal.invariant-loop-at
invariant-loop-at g l = record {
  count : (l.at-end ≡ length l.taken) × (slots_len l.closed.slots ≡ length l.taken);
  items : slots_items l.closed.slots ≡ slots_items l.fn.closed.slots;
  full : Filled (slots_filled l.closed.slots) l.at (slots_len l.closed.slots);
  empty : (k : ℕ) → k < l.at → get_or (slots_filled l.closed.slots) k false ≡ false;
  room : length l.taken ≤ vec_capacity l.left;
  left : IsTakenBelow l.at l.taken (slots_items l.fn.closed.slots) l.left.items;
}
