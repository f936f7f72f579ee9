-- What driving a subscription until it is idle does.
use Rattle.rsx_sources.specs.declared.machine.Machine.{Ghosts as Machine}
use Rattle.rsx_rooted.specs.declared.nodes.Nodes.{Ghosts as Nodes}
use Rattle.std.specs.Prelude.{◌≡◌, ◌⊎◌, ℕ, ◌+◌, ◌≤◌, Bool, true, false, List, [], ◌∷◌, ◌++◌, Option, Result, Ok, Err}
use Rattle.std.specs.Option.{option_to_list}
use Rattle.rsx_sources.specs.Prelude.{Meaning, Move, SubId, Sub, Signal}
pub use Rattle.rsx_tree.specs.Driven.{Spent}
use Rattle.rsx_tree.specs.Runs.{Gives}
use Rattle.rsx_pipe.specs.Part.{HasEnded, has_room}
use Rattle.rsx_pipe.specs.Part as Part
use Rattle.rsx_pipe.specs.Tree.{IsAlike}
use Rattle.rsx_rooted.specs.declared.rooted.Pumped.{Pumped as Rest}
use Rattle.rsx_rooted.specs.declared.rooted.Pumped.TheVariants.{Idle as Rests, Budget as Wakes}
use Rattle.rsx_subscriber.specs.declared.subscription.Subscription.{Subscription}
use Rattle.rsx_subscriber.specs.Delivered.{Delivered}
pub use Rattle.rsx_subscriber.specs.Delivered.{to}
use Rattle.rsx_subscriber.specs.Past.{Past, given}
use Rattle.rsx_subscriber.specs.Moves.{tree_of}
use Rattle.rsx_subscriber.specs.Stands.{StandsAfter, IsEffect, IsMadeAnswer, take_enabled, move_enabled_in}

-- the past of a subscriber that received these signals
abbrev pub given_all : {T : Type 0} → List (Signal T) → Past T → Past T
given_all [] p = p
given_all (s ∷ ss) p = given_all ss (given s p)

-- ---- moves one after the other

-- an enabled move of a subscription was made, and had its effect
pub record IsMoved {M T : Type 0} (mc : Machine M T) (kd : Nodes M T) (m : Meaning T) (id : SubId) (old : Subscription M T) (o : Option (SubId × Signal T)) (new : Subscription M T) : Type 0 where
  pub move : Move
  pub tree : tree_of move ≡ Sub id
  pub enabled : move_enabled_in mc kd m old move ≡ true
  pub effect : IsEffect mc kd m move old new o
  pub answer : IsMadeAnswer move o

-- ---- a subscription

-- a subscription made so many enabled moves, and these signals of it were delivered
pub record IsPumped {M T : Type 0} (mc : Machine M T) (kd : Nodes M T) (m : Meaning T) (id : SubId) (count : ℕ) (old : Subscription M T) (before : List (SubId × Signal T)) (new : Subscription M T) (after : List (SubId × Signal T)) : Type 0 where
  pub signals : List (Signal T)
  pub output : after ≡ before ++ to id signals
  pub moves : Gives (IsMoved mc kd m id) option_to_list count old (to id signals) new
  pub stands : StandsAfter mc m (given_all signals) old new
  -- whether a move of its part may allocate stays
  pub alike : IsAlike mc old.part.tree new.part.tree

-- a subscription made some number of enabled moves of which this holds, and their deliveries were put behind those before
abbrev pub SomePumped : {M T : Type 0} → Machine M T → Nodes M T → Meaning T → SubId → (ℕ → Type 0) → Subscription M T → Delivered T → Subscription M T → Delivered T → Type 0
SomePumped mc kd m id holds old before new after = (n : ℕ) × holds n × IsPumped mc kd m id n old before.signals new after.signals

-- nothing was delivered and nothing changed, and a Take wasn't enabled
abbrev pub NothingTaken : {M T : Type 0} → Subscription M T → Delivered T → Subscription M T → Delivered T → Type 0
NothingTaken old before new after = (new ≡ old) × (after.signals ≡ before.signals) × (take_enabled old 0 ≡ false)

-- how many moves were made, where the answer is whether one was
abbrev pub moves_of : {E : Type 0} → Result Bool E → ℕ
moves_of (Ok true) = 1
moves_of (Ok false) = 0
moves_of (Err e) = 0

-- no move of a subscription is enabled, of all that the numbers of nodes and inputs can name: none of its part, and no Take
abbrev pub IsQuiet : {M T : Type 0} → Machine M T → Meaning T → Subscription M T → Type 0
IsQuiet mc m sub = Part.IsQuiet mc m sub.part (has_room sub.queue) × (take_enabled sub 0 ≡ false)

-- some move of a subscription is enabled: one of its part, or a Take
abbrev pub IsAwake : {M T : Type 0} → Machine M T → Meaning T → Subscription M T → Type 0
IsAwake mc m sub = Part.IsAwake mc m sub.part (has_room sub.queue) ⊎ (take_enabled sub 0 ≡ true)

-- how driving a subscription ends after so many moves: Idle, with what is left of the budget, where no move is enabled;
-- Budget where one is and the whole budget was spent
abbrev pub HasRested : {M T E : Type 0} → Machine M T → Meaning T → ℕ → ℕ → Subscription M T → Result Rest E → Type 0
HasRested mc m budget n sub (Ok (Rests left)) = (n + left ≡ budget) × IsQuiet mc m sub
HasRested mc m budget n sub (Ok Wakes) = (n ≡ budget) × IsAwake mc m sub
HasRested mc m budget n sub (Err e) = n ≤ budget

-- what `pump` promises: for some number, so many enabled moves were made, and the answer fits that number and the budget
abbrev pub HasPumped : {M T E : Type 0} → Machine M T → Nodes M T → Meaning T → SubId → ℕ → Subscription M T → Delivered T → Result Rest E → Subscription M T → Delivered T → Type 0
HasPumped mc kd m id budget old before result new after = SomePumped mc kd m id (λ n. HasRested mc m budget n new result) old before new after

-- the same of moves of its part alone, by which nothing is delivered
abbrev pub HasPumpedPart : {M T E : Type 0} → Machine M T → Nodes M T → Meaning T → SubId → ℕ → Subscription M T → Result Rest E → Subscription M T → Type 0
HasPumpedPart {M} {T} mc kd m id budget old result new =
    (n : ℕ) × HasEnded mc m budget n new.part (has_room new.queue) result × ((out : List (SubId × Signal T)) → IsPumped mc kd m id n old out new out)

-- how it ends where so much of the budget is left
abbrev pub IsRest : {M T : Type 0} → Machine M T → Meaning T → Subscription M T → ℕ → Rest → Type 0
IsRest mc m sub left (Rests k) = (k ≡ left) × IsQuiet mc m sub
IsRest mc m sub left Wakes = (left ≡ 0) × IsAwake mc m sub
