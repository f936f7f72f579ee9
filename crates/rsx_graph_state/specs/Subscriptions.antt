-- What the subscriptions of a graph stand for, their enabled moves, and what a move changes.
use Rattle.rsx_sources.specs.declared.machine.Machine.{Ghosts as Machine}
use Rattle.rsx_rooted.specs.declared.nodes.Nodes.{Ghosts as Nodes}
use Rattle.std.specs.Prelude.{◌≡◌, ℕ, Bool, false, ◌||◌, nat_eq, if◌then◌else◌, List, [], ◌∷◌, Option, Some, ◌-◌, slice_get, ℤ, zero, suc, slice_set}
use Rattle.rsx_sources.specs.Prelude.{Meaning, Allocates, Stream, Note, SubId, Tree, Sub, Feed, Move, Signal}
use Rattle.rsx_pipe.specs.Part as Part
use Rattle.rsx_subscriber.specs.Prelude.{notes_of, IsRequested, IsCancelled, Past, request_answer, Stands, standing_of, make_allocates, move_enabled_in, owes_in, IsAlone, IsEffect}
use Rattle.rsx_subscriber.specs.declared.subscription.Subscription.{Subscription}

-- each subscription stands for its own past
abbrev pub AllStand : {M T : Type 0} → Machine M T → Meaning T → List (Stream T) → List (Subscription M T) → List (Past T) → Type 0
AllStand mc m published [] [] = Unit {0}
AllStand mc m published (s ∷ ss) (p ∷ ps) = Stands mc m published s p × AllStand mc m published ss ps
AllStand mc m published [] (p ∷ ps) = ⊥
AllStand mc m published (s ∷ ss) [] = ⊥

-- ---- enabled moves

-- at the subscription with this number, if there is one
abbrev pub enabled_at : {M T : Type 0} → Machine M T → Nodes M T → Meaning T → List (Subscription M T) → ℕ → Move → Bool
enabled_at mc kd m [] i mv = false
enabled_at mc kd m (s ∷ ss) i mv = if nat_eq i 0 then move_enabled_in mc kd m s mv else enabled_at mc kd m ss (i - 1) mv

abbrev pub enabled_in_tree : {M T : Type 0} → Machine M T → Nodes M T → Meaning T → List (Subscription M T) → Tree → Move → Bool
enabled_in_tree mc kd m subs (Sub i) mv = enabled_at mc kd m subs i.0 mv
enabled_in_tree mc kd m subs (Feed h) mv = false

-- whether some move of a graph may allocate, where these of the caller's functions may
abbrev pub pump_allocates : {M T : Type 0} → Machine M T → Allocates → List (Subscription M T) → Bool
pump_allocates mc a [] = false
pump_allocates mc a (s ∷ ss) = Part.pump_allocates mc a s.part || pump_allocates mc a ss

-- whether a move in the subscription with this number may allocate, where these of the caller's functions may
abbrev pub allocates_at : {M T : Type 0} → Machine M T → Nodes M T → Allocates → List (Subscription M T) → ℕ → Move → Bool
allocates_at mc kd a [] i mv = false
allocates_at mc kd a (s ∷ ss) i mv = if nat_eq i 0 then make_allocates mc kd a s mv else allocates_at mc kd a ss (i - 1) mv

-- ---- what the looks answer

-- this is what the subscriber with this number is owed
abbrev pub OwedAt : {M T : Type 0} → Machine M T → Meaning T → List (Stream T) → List (Subscription M T) → List (Past T) → ℕ → Stream T → Type 0
OwedAt mc m published (s ∷ ss) (p ∷ ps) zero v = owes_in mc m published s p v p.state
OwedAt mc m published (s ∷ ss) (p ∷ ps) (suc i) v = OwedAt mc m published ss ps i v
OwedAt mc m published [] ps i v = ⊥
OwedAt mc m published (s ∷ ss) [] i v = ⊥

-- these are the notes of a tree
abbrev pub HasNotesAt : {M T : Type 0} → Machine M T → List (Subscription M T) → SubId → List Note → Type 0
HasNotesAt {M} {T} mc subs i ns = (s : Subscription M T) × (slice_get subs i.0 ≡ Some s) × (ns ≡ notes_of mc s.part.tree)

-- ---- what an edit changes

-- the subscription with this number took a request of n, and no other one changed
pub record IsRequestedAt {M T : Type 0} (mc : Machine M T) (i : ℕ) (n : ℤ) (subs news : List (Subscription M T)) (o : Option (Signal T)) : Type 0 where
  pub old : Subscription M T
  pub new : Subscription M T
  pub there : slice_get subs i ≡ Some old
  -- the answer is the error of a bad request, or nothing
  pub answer : o ≡ request_answer (standing_of old) n
  pub effect : IsRequested mc (standing_of old) n old new
  pub others : news ≡ slice_set subs i new

-- the subscription with this number took a cancel, and no other one changed
pub record IsCancelledAt {M T : Type 0} (mc : Machine M T) (i : ℕ) (subs news : List (Subscription M T)) : Type 0 where
  pub old : Subscription M T
  pub new : Subscription M T
  pub there : slice_get subs i ≡ Some old
  pub effect : IsCancelled mc (standing_of old) old new
  pub others : news ≡ slice_set subs i new

-- ---- what a move changes

-- a move was made in the subscription with this number, and no other one changed
pub record IsMadeAt {M T : Type 0} (mc : Machine M T) (kd : Nodes M T) (m : Meaning T) (mv : Move) (i : ℕ) (subs news : List (Subscription M T)) (o : Option (SubId × Signal T)) : Type 0 where
  pub old : Subscription M T
  pub new : Subscription M T
  pub there : slice_get subs i ≡ Some old
  pub effect : IsEffect mc kd m mv old new o
  pub others : news ≡ slice_set subs i new

-- what a call that makes just this move there says of that subscription besides: no step of a node was made besides
abbrev pub IsAloneAt : {M T : Type 0} → Machine M T → Nodes M T → Meaning T → Move → ℕ → List (Subscription M T) → List (Subscription M T) → Type 0
IsAloneAt {M} {T} mc kd m mv i subs news =
    (old new : Subscription M T) → slice_get subs i ≡ Some old → slice_get news i ≡ Some new → IsAlone mc kd m mv old new

-- a move was made in its tree
abbrev pub IsMade : {M T : Type 0} → Machine M T → Nodes M T → Meaning T → Move → Tree → List (Subscription M T) → List (Subscription M T) → Option (SubId × Signal T) → Type 0
IsMade mc kd m mv (Sub i) subs news o = IsMadeAt mc kd m mv i.0 subs news o
IsMade mc kd m mv (Feed h) subs news o = ⊥
