-- Items that are pulled through a part, each in one go, and out over its root edge.
use Rattle.std.specs.Prelude.{◌≡◌, ℕ, ◌+◌, true, List, [], ◌∷◌, Option, Some, None}
use Rattle.rsx_sources.specs.Prelude.{Meaning, Next}
use Rattle.rsx_sources.specs.declared.machine.Machine.{Ghosts as Machine}
use Rattle.rsx_rooted.specs.Feeding.{IsMadeInside, IsSentOut, inside_enabled}
use Rattle.rsx_rooted.specs.Rooted.{IsPumped, no_room}
use Rattle.rsx_rooted.specs.declared.rooted.Rooted.{Rooted}
use Rattle.rsx_tree.specs.Runs.{LeadsBy}
use Rattle.rsx_tree.specs.declared.look.NodeMove.{NodeMove}

-- so many enabled moves inside the tree
abbrev pub IsWorked : {M T : Type 0} → Machine M T → Meaning T → ℕ → Rooted M → Rooted M → Type 0
IsWorked b m n old new = IsPumped b no_room m n old tt new tt

-- enabled moves of the part, so many as the budget fell by: such inside the tree, and then with an item the Send of that item over
-- the root edge
abbrev pub IsFetched : {M T : Type 0} → Machine M T → Meaning T → ℕ → Rooted M → Option T → ℕ → Rooted M → Type 0
IsFetched {M = M} b m budget old (Some x) left new = (n : ℕ) × (mid : Rooted M) × ((n + 1) + left ≡ budget) × IsWorked b m n old mid × IsSentOut b m mid (Next x) new
IsFetched b m budget old None left new = (n : ℕ) × (n + left ≡ budget) × IsWorked b m n old new

-- items one after the other, each by enabled moves and the Send of it, and then enabled moves
abbrev pub AreFetched : {M T : Type 0} → Machine M T → Meaning T → ℕ → Rooted M → List T → ℕ → Rooted M → Type 0
AreFetched b m budget old [] left new = IsFetched b m budget old None left new
AreFetched {M = M} b m budget old (x ∷ xs) left new = (between : ℕ) × (mid : Rooted M) × IsFetched b m budget old (Some x) between mid × AreFetched b m between mid xs left new

-- ---- each move, one by one

-- some enabled move inside the tree was made
pub record IsMovedInside {M T : Type 0} (b : Machine M T) (m : Meaning T) (old new : Rooted M) : Type 0 where
  pub move : NodeMove
  pub enabled : inside_enabled b m old move ≡ true
  pub made : IsMadeInside b m move old new

-- items one after the other, each by so many of them and the Send of it over the root edge, and then such moves; so many in all as
-- the budget fell by
abbrev pub AreFed : {M T : Type 0} → Machine M T → Meaning T → ℕ → Rooted M → List T → ℕ → Rooted M → Type 0
AreFed b m budget old [] left new = (n : ℕ) × (n + left ≡ budget) × LeadsBy (IsMovedInside b m) n old new
AreFed {M = M} b m budget old (x ∷ xs) left new =
    (n : ℕ) × (between : ℕ) × (mid : Rooted M) × (sent : Rooted M) × ((n + 1) + between ≡ budget)
    × LeadsBy (IsMovedInside b m) n old mid × IsSentOut b m mid (Next x) sent × AreFed b m between sent xs left new
