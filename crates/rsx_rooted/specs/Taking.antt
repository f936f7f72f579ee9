-- Many items of a hub at once: what takes them in does what it does where they come one by one.
use Rattle.std.specs.Prelude.{◌≡◌, ℕ, zero, suc, ◌≤◌, min, true, if◌then◌else◌, List, [], ◌++◌, length, reverse}
use Rattle.rsx_sources.specs.Reading.{reads_hub}
use Rattle.rsx_sources.specs.declared.machine.Machine.{Ghosts as Machine}
use Rattle.rsx_types.specs.declared.signal.Signal.TheVariants.{Next}
use Rattle.rsx_tree.specs.Edges.{is_live}
use Rattle.rsx_tree.specs.Handed.{IsHanded, IsNodeHanded, IsRowHanded, IsTakenBy, has_room, has_room_in, room_at}
use Rattle.rsx_tree.specs.declared.inputs.Inputs.{Inputs, End, More'}
use Rattle.rsx_tree.specs.declared.node.Node.{Node}

-- a node that had room took in an item of the hub that it reads
pub record IsItemTaken {M T : Type 0} (b : Machine M T) (old : M) (x : T) (new : M) : Type 0 where
  pub room : b.rooms old ≡ true
  pub taken : IsTakenBy b (Next x) old new

-- all nodes of a tree that read the hub had room for an item of it, and took it in
pub record IsItemHanded {M T : Type 0} (b : Machine M T) (h : ℕ) (old : Node M) (x : T) (new : Node M) : Type 0 where
  pub room : has_room b h old ≡ true
  pub handed : IsHanded b h (Next x) old new

-- a list so many times, one behind the other
abbrev pub blocks : {A : Type 0} → ℕ → List A → List A
blocks zero ys = []
blocks (suc n) ys = ys ++ blocks n ys

-- where these items stand at the end of a list, the first of them last, and they are no more than there is room for, they are taken
-- out there, and what is before them stays
abbrev pub IsTakenOff : {T : Type 0} → ℕ → ℕ → List T → List T → (List T → Type 0) → Type 0
IsTakenOff {T} count spaces old new done = (before xs : List T) → old ≡ before ++ reverse xs → length xs ≡ count → count ≤ spaces → done xs × (new ≡ before)

-- so they are for each of so many readers, where they stand there once for each
abbrev pub AreTakenOff : {T : Type 0} → ℕ → ℕ → ℕ → List T → List T → (List T → Type 0) → Type 0
AreTakenOff {T} readers count spaces old new done = (before xs : List T) → old ≡ before ++ blocks readers (reverse xs) → length xs ≡ count → count ≤ spaces → done xs × (new ≡ before)

-- ---- room

-- for how many items of the hub a node has room at once, but at most so many
abbrev pub spaces_at : {M T : Type 0} → Machine M T → (M → ℕ) → ℕ → ℕ → M → ℕ
spaces_at b spaces h most n = if reads_hub h (b.reads n) then min (spaces n) most else most

-- the least of those of the nodes of a row, and below it; what is behind an edge that isn't live reads nothing
abbrev pub spaces_in : {M T : Type 0} → Machine M T → (M → ℕ) → ℕ → ℕ → Inputs M → ℕ
spaces_in b spaces h most End = most
spaces_in b spaces h most (More' e n p below q beside) =
    spaces_in b spaces h (if is_live e.state then spaces_in b spaces h (spaces_at b spaces h most n) below else most) beside

-- of those of a tree whose root's own edge is live
abbrev pub spaces_for : {M T : Type 0} → Machine M T → (M → ℕ) → ℕ → ℕ → Node M → ℕ
spaces_for b spaces h most t = spaces_in b spaces h (spaces_at b spaces h most t.machine) t.inputs

-- ---- in one node, and in a row

-- a node took in an item, where it reads the hub, and had room for it
pub record IsItemInNode {M T : Type 0} (b : Machine M T) (h : ℕ) (old : M) (x : T) (new : M) : Type 0 where
  pub room : room_at b h old ≡ true
  pub handed : IsNodeHanded b h (Next x) old new

-- so did each node of a row, and below it
pub record IsItemInRow {M T : Type 0} (b : Machine M T) (h : ℕ) (old : Inputs M) (x : T) (new : Inputs M) : Type 0 where
  pub room : has_room_in b h old ≡ true
  pub handed : IsRowHanded b h (Next x) old new
