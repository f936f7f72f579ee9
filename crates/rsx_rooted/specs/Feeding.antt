-- A signal that goes over the root edge into the hands of the caller, and the moves inside the tree, which are those where nothing
-- behind the root edge has room.
use Rattle.std.specs.Prelude.{◌≡◌, Bool, true, false, if◌then◌else◌, [], ◌∷◌, Option, Some, None, option_map}
use Rattle.rsx_sources.specs.Prelude.{Meaning, Signal, front_of}
use Rattle.rsx_sources.specs.declared.machine.Machine.{Ghosts as Machine}
use Rattle.rsx_tree.specs.Prelude.{EdgeView, can_pass, edge_view, passed, popped}
use Rattle.rsx_tree.specs.declared.look.NodeMove.{NodeMove}
use Rattle.rsx_tree.specs.declared.look.NodeMove.TheVariants.{Send}
use Rattle.rsx_rooted.specs.Rooted.{IsMade, IsQuiet, move_enabled}
use Rattle.rsx_rooted.specs.Tree.{can_go, offers}
use Rattle.rsx_rooted.specs.declared.rooted.Rooted.{Rooted}

-- ---- over the root edge

-- an offered signal, where it can go over this edge
abbrev pub carried : {T : Type 0} → EdgeView → Option (Signal T) → Option (Signal T)
carried e None = None
carried e (Some s) = if can_pass e (front_of s) then Some s else None

-- the signal that the root edge would carry now
abbrev pub next_out : {M T : Type 0} → Machine M T → Meaning T → Rooted M → Option (Signal T)
next_out b m part = carried (edge_view part.root) (offers b m part.tree)

-- whether there is one
abbrev pub goes_out : {M T : Type 0} → Machine M T → Meaning T → Rooted M → Bool
goes_out b m part = can_go (edge_view part.root) (option_map front_of (offers b m part.tree))

-- that signal went over the root edge, into the hands of the caller
pub record IsSentOut {M T : Type 0} (b : Machine M T) (m : Meaning T) (old : Rooted M) (signal : Signal T) (new : Rooted M) : Type 0 where
  pub next : next_out b m old ≡ Some signal
  pub enabled : goes_out b m old ≡ true
  pub made : IsMade b m (Send 0) old (signal ∷ []) new
  -- it was taken out of the tree, and the root edge counts it
  pub popped : popped b old.tree signal new.tree
  pub can : can_pass (edge_view old.root) (front_of signal) ≡ true
  pub root : edge_view new.root ≡ passed (edge_view old.root) (front_of signal)

-- ---- inside the tree

abbrev pub inside_enabled : {M T : Type 0} → Machine M T → Meaning T → Rooted M → NodeMove → Bool
inside_enabled b m part move = move_enabled b m part false move

abbrev pub IsQuietInside : {M T : Type 0} → Machine M T → Meaning T → Rooted M → Type 0
IsQuietInside b m part = IsQuiet b m part false

abbrev pub IsMadeInside : {M T : Type 0} → Machine M T → Meaning T → NodeMove → Rooted M → Rooted M → Type 0
IsMadeInside b m move old new = IsMade b m move old [] new
