-- What driving a graph until it is idle does.
use Rattle.rsx_sources.specs.declared.machine.Machine.{Ghosts as Machine}
use Rattle.rsx_rooted.specs.declared.nodes.Nodes.{Ghosts as Nodes}
use Rattle.std.specs.Prelude.{◌≡◌, ℕ, ◌+◌, ◌≤◌, ◌<◌, true, List, ◌++◌, length, Option, Some, Result, Ok, Err, slice_get}
use Rattle.std.specs.Option.{option_to_list}
use Rattle.rsx_sources.specs.Prelude.{Meaning, Allocates, Move, SubId, Signal, Stream}
use Rattle.rsx_tree.specs.Runs.{Gives}
use Rattle.rsx_rooted.specs.declared.rooted.Pumped.{Pumped as Rest}
use Rattle.rsx_rooted.specs.declared.rooted.Pumped.TheVariants.{Idle as Rests, Budget as Wakes}
use Rattle.rsx_subscriber.specs.Prelude.{tree_of, IsQuiet, IsMadeAnswer, Past}
use Rattle.rsx_subscriber.specs.declared.subscription.Subscription.{Subscription}
use Rattle.rsx_graph_state.specs.declared.refusal.Refusal.{Refusal}
use Rattle.rsx_graph_state.specs.declared.refusal.Refusal.TheVariants.{NoMemory}
use Rattle.rsx_graph_state.specs.Answers.{pasts_after}
use Rattle.rsx_graph_state.specs.Subscriptions.{AllStand, IsMade, enabled_in_tree, pump_allocates}

-- ---- the moves of subscriptions alone

-- an enabled move of a subscription was made, and had its effect
pub record IsSubMoveMade {M T : Type 0} (mc : Machine M T) (kd : Nodes M T) (m : Meaning T) (old : List (Subscription M T)) (o : Option (SubId × Signal T)) (new : List (Subscription M T)) : Type 0 where
  pub move : Move
  pub enabled : enabled_in_tree mc kd m old (tree_of move) move ≡ true
  pub effect : IsMade mc kd m move (tree_of move) old new o
  pub answer : IsMadeAnswer move o

-- the subscriptions made so many enabled moves, and these signals were delivered
pub record AllPumped {M T : Type 0} (mc : Machine M T) (kd : Nodes M T) (m : Meaning T) (count : ℕ) (old : List (Subscription M T)) (before : List (SubId × Signal T)) (new : List (Subscription M T)) (after : List (SubId × Signal T)) : Type 0 where
  pub signals : List (SubId × Signal T)
  pub output : after ≡ before ++ signals
  pub moves : Gives (IsSubMoveMade mc kd m) option_to_list count old signals new
  pub stands : (published : List (Stream T)) (pasts : List (Past T)) → AllStand mc m published old pasts → AllStand mc m published new (pasts_after signals pasts)
  -- whether a move may allocate stays
  pub alike : (a : Allocates) → pump_allocates mc a new ≡ pump_allocates mc a old

-- some move of a subscription is enabled
abbrev pub IsSubAwake : {M T : Type 0} → Machine M T → Nodes M T → Meaning T → List (Subscription M T) → Type 0
IsSubAwake mc kd m subs = (move : Move) × (enabled_in_tree mc kd m subs (tree_of move) move ≡ true)

-- the first subscriptions, so many of them, are quiet
abbrev pub AreQuiet : {M T : Type 0} → Machine M T → Meaning T → List (Subscription M T) → ℕ → Type 0
AreQuiet {M} {T} mc m subs n = (i : ℕ) → i < n → (s : Subscription M T) → slice_get subs i ≡ Some s → IsQuiet mc m s

-- how driving the subscription with this number ends
abbrev pub HasRestedAt : {M T : Type 0} → Machine M T → Nodes M T → Meaning T → ℕ → ℕ → List (Subscription M T) → ℕ → List (Subscription M T) → Result Rest Refusal → Type 0
HasRestedAt mc kd m budget n olds i news (Ok (Rests left)) = (n + left ≡ budget) × (AreQuiet mc m olds i → AreQuiet mc m news (i + 1))
HasRestedAt mc kd m budget n olds i news (Ok Wakes) = (n ≡ budget) × IsSubAwake mc kd m news
HasRestedAt mc kd m budget n olds i news (Err r) = (n ≤ budget) × (r ≡ NoMemory)

-- how driving all subscriptions ends
abbrev pub HaveRested : {M T : Type 0} → Machine M T → Nodes M T → Meaning T → ℕ → ℕ → List (Subscription M T) → Result Rest Refusal → Type 0
HaveRested mc kd m budget n subs (Ok (Rests left)) = (n + left ≡ budget) × AreQuiet mc m subs (length subs)
HaveRested mc kd m budget n subs (Ok Wakes) = (n ≡ budget) × IsSubAwake mc kd m subs
HaveRested mc kd m budget n subs (Err r) = (n ≤ budget) × (r ≡ NoMemory)
