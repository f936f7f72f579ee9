-- A part to whose nodes several items of a hub are handed at once.
use Rattle.std.specs.Prelude.{◌≡◌, ℕ, true, if◌then◌else◌}
use Rattle.rsx_sources.specs.declared.machine.Machine.{Ghosts as Machine}
use Rattle.rsx_types.specs.declared.signal.Signal.TheVariants.{Next}
use Rattle.rsx_tree.specs.Edges.{is_live}
use Rattle.rsx_rooted.specs.Taking as Tree
use Rattle.rsx_pipe.specs.Part.{Part}
use Rattle.rsx_pipe.specs.Published.{IsHanded, has_room_for}

-- all nodes of the part that read the hub had room for an item of it, and took it in
pub record IsItemHanded {M T : Type 0} (b : Machine M T) (h : ℕ) (old : Part M) (x : T) (new : Part M) : Type 0 where
  pub room : has_room_for b h old ≡ true
  pub handed : IsHanded b h (Next x) old new

-- for how many items of the hub all of them have room at once, but at most so many
abbrev pub spaces_for : {M T : Type 0} → Machine M T → (M → ℕ) → ℕ → ℕ → Part M → ℕ
spaces_for b spaces h most part = if is_live part.root.state then Tree.spaces_for b spaces h most part.tree else most
