-- The memory of so many places.
use Rattle.std.specs.Prelude.{◌≡◌, ℕ, ◌≤◌, false, [], ◌∷◌, replicate}
use Rattle.std.specs.Vec.{vec_capacity}
use Rattle.rsx_link.specs.declared.place_room.Room.{Room}

pub record IsRoomFor {E P : Type 0} (count : ℕ) (r : Room E P) : Type 0 where
  pub words : r.words.items ≡ 0 ∷ replicate count 0
  pub taken : r.taken.items ≡ replicate count false
  pub slots : (r.slots.items ≡ []) × (count ≤ vec_capacity r.slots)
  pub left : (r.left.items ≡ []) × (count ≤ vec_capacity r.left)
