-- What driving a graph with feeds until it is idle does.
use Rattle.rsx_sources.specs.declared.machine.Machine.{Ghosts as Machine}
use Rattle.rsx_rooted.specs.declared.nodes.Nodes.{Ghosts as Nodes}
use Rattle.std.specs.Prelude.{◌≡◌, ◌⊎◌, ℕ, ◌+◌, ◌≤◌, ◌<◌, true, false, List, [], ◌∷◌, ◌++◌, length, Option, None, Result, Ok, Err}
use Rattle.std.specs.List.{flat_map, fold}
use Rattle.std.specs.Option.{option_to_list}
use Rattle.rsx_graph_state.specs.Prelude.{AllHanded, History, with_made, accepts_at, feed_enabled, Rows, StandsFor}
use Rattle.rsx_graph_state.specs.declared.refusal.Refusal.{Refusal}
use Rattle.rsx_graph_state.specs.declared.refusal.Refusal.TheVariants.{NoMemory}
use Rattle.rsx_graph_state.specs.declared.step.Pumped.{Pumped}
use Rattle.rsx_graph_state.specs.declared.step.Pumped.TheVariants.{Idle, Budget}
use Rattle.rsx_tree.specs.Runs.{Leads}
use Rattle.rsx_pipe.specs.Part as Part
use Rattle.rsx_rooted.specs.declared.rooted.Pumped.{Pumped as Rest}
use Rattle.rsx_rooted.specs.declared.rooted.Pumped.TheVariants.{Idle as Rests, Budget as Wakes}
use Rattle.rsx_subscriber.specs.Prelude.{Delivered, IsNumbered, IsMadeAnswer, NodeMove}
use Rattle.rsx_sources.specs.Prelude.{Meaning, Move, SubId, Signal}
use Rattle.rsx_sources.specs.declared.machine.NotMade.{NotMade}
use Rattle.rsx_sources.specs.declared.machine.NotMade.TheVariants.{NotEnabled, NoMemory as Wanting}
use Rattle.rsx_graph_moves.specs.Moves.{IsMoved, is_enabled, sent}

-- ---- moves one after the other

-- a move, with what it delivered, and what went out of a feed into its hub
pub record Made (T : Type 0) : Type 0 where
  pub move : Move
  pub delivered : Option (SubId × Signal T)
  pub fed : Option (Signal T)

-- an enabled move was made, and had its effect: what `make` promises
pub record IsMoveMade {M T : Type 0} (mc : Machine M T) (kd : Nodes M T) (m : Meaning T) (old : Rows M T) (made : Made T) (new : Rows M T) : Type 0 where
  pub enabled : is_enabled mc kd m old made.move ≡ true
  pub effect : IsMoved mc kd m made.move old new made.delivered
  pub answer : IsMadeAnswer made.move made.delivered
  pub fed : made.fed ≡ sent mc kd m old made.move

-- these moves were made, each on the graph that the one before it left
abbrev pub LeadTo : {M T : Type 0} → Machine M T → Nodes M T → Meaning T → Rows M T → List (Made T) → Rows M T → Type 0
LeadTo mc kd m old moves new = Leads (IsMoveMade mc kd m) old moves new

-- the history after one of them
abbrev pub after_move : {T : Type 0} → History T → Made T → History T
after_move h d = with_made d.move d.delivered d.fed h

-- after all of them
abbrev pub after_moves : {T : Type 0} → History T → List (Made T) → History T
after_moves h moves = fold after_move h moves

-- what one of them delivered
abbrev pub delivery_by : {T : Type 0} → Made T → List (SubId × Signal T)
delivery_by d = option_to_list d.delivered

-- what they delivered, in their order
abbrev pub delivered_by : {T : Type 0} → List (Made T) → List (SubId × Signal T)
delivered_by moves = flat_map delivery_by moves

-- these moves were made, and the graph stands for what has happened by them
pub record AreMade {M T : Type 0} (mc : Machine M T) (kd : Nodes M T) (m : Meaning T) (old : Rows M T) (moves : List (Made T)) (new : Rows M T) : Type 0 where
  pub lead : LeadTo mc kd m old moves new
  pub stands : (h : History T) → StandsFor mc m old h → StandsFor mc m new (after_moves h moves)

-- ---- how it ends

-- no move of a graph is enabled, of all that the numbers of nodes, inputs and hubs can name
abbrev pub IsAllQuiet : {M T : Type 0} → Machine M T → Nodes M T → Meaning T → Rows M T → Type 0
IsAllQuiet mc kd m g = (move : Move) → IsNumbered move → is_enabled mc kd m g move ≡ false

-- some move of a graph is enabled
abbrev pub IsAnyAwake : {M T : Type 0} → Machine M T → Nodes M T → Meaning T → Rows M T → Type 0
IsAnyAwake mc kd m g = (move : Move) × (is_enabled mc kd m g move ≡ true)

-- how driving a graph ends after so many moves: Idle where no move is enabled, and Budget where one is and the whole
-- budget was spent
abbrev pub HasEnded : {M T : Type 0} → Machine M T → Nodes M T → Meaning T → ℕ → ℕ → Rows M T → Result Pumped Refusal → Type 0
HasEnded mc kd m budget n g (Ok Idle) = (n ≤ budget) × IsAllQuiet mc kd m g
HasEnded mc kd m budget n g (Ok Budget) = (n ≡ budget) × IsAnyAwake mc kd m g
HasEnded mc kd m budget n g (Err r) = (n ≤ budget) × (r ≡ NoMemory)

-- for some list of moves, these were made one after the other, each of them enabled, the answer fits their number and the
-- budget, what they delivered was put behind what stood there, and the graph stands for what has happened
abbrev pub HasPumped : {M T : Type 0} → Machine M T → Nodes M T → Meaning T → ℕ → Rows M T → Delivered T → Result Pumped Refusal → Rows M T → Delivered T → Type 0
HasPumped {M} {T} mc kd m budget old before result new after =
    (moves : List (Made T)) × HasEnded mc kd m budget (length moves) new result × AreMade mc kd m old moves new × (after.signals ≡ before.signals ++ delivered_by moves)

-- ---- the moves of hubs alone: what they take in of their emitters, and the moves of their feeds

-- no such move of the hub with this number is enabled
pub record IsHubQuiet {M T : Type 0} (mc : Machine M T) (m : Meaning T) (g : Rows M T) (h : ℕ) : Type 0 where
  pub accept : accepts_at mc g h ≡ false
  pub feed : (step : NodeMove) → Part.IsNumbered step → feed_enabled mc m g h step ≡ false

abbrev pub AreHubsQuiet : {M T : Type 0} → Machine M T → Meaning T → Rows M T → ℕ → Type 0
AreHubsQuiet mc m g n = (h : ℕ) → h < n → IsHubQuiet mc m g h

-- some move of the hub with this number was made, which delivered nothing; each subscription is as it was, or all got the same signal of
-- the hub
pub record IsHubMovedOn {M T : Type 0} (mc : Machine M T) (kd : Nodes M T) (m : Meaning T) (h : ℕ) (old new : Rows M T) : Type 0 where
  pub made : Made T
  pub all : AreMade mc kd m old (made ∷ []) new
  pub silent : made.delivered ≡ None
  pub subs : (new.subs ≡ old.subs) ⊎ ((s : Signal T) × AllHanded mc h s old.subs new.subs)

-- one move of the hub with this number was made, which delivered nothing: of its feed, or by which it took in what its emitter
-- published. So one was enabled; and each subscription is as it was, or all got the same signal of the hub
pub record IsHubMoved {M T : Type 0} (mc : Machine M T) (kd : Nodes M T) (m : Meaning T) (h : ℕ) (old new : Rows M T) : Type 0 where
  pub made : Made T
  pub all : AreMade mc kd m old (made ∷ []) new
  pub silent : made.delivered ≡ None
  pub awake : IsHubQuiet mc m old h → ⊥
  pub subs : (new.subs ≡ old.subs) ⊎ ((s : Signal T) × AllHanded mc h s old.subs new.subs)

-- why none was made: none is enabled, or one is, and memory was wanting
abbrev pub IsHubMoveRefusal : {M T : Type 0} → Machine M T → Meaning T → Rows M T → ℕ → NotMade → Type 0
IsHubMoveRefusal mc m g h NotEnabled = IsHubQuiet mc m g h
IsHubMoveRefusal mc m g h Wanting = IsHubQuiet mc m g h → ⊥

-- how driving the hub with this number ends after so many moves
abbrev pub HasRestedAt : {M T : Type 0} → Machine M T → Nodes M T → Meaning T → ℕ → ℕ → ℕ → Rows M T → Result Rest Refusal → Type 0
HasRestedAt mc kd m h budget n g (Ok (Rests left)) = (n + left ≡ budget) × IsHubQuiet mc m g h
HasRestedAt mc kd m h budget n g (Ok Wakes) = (n ≡ budget) × IsAnyAwake mc kd m g
HasRestedAt mc kd m h budget n g (Err r) = (n ≤ budget) × (r ≡ NoMemory)

-- how driving all hubs ends: where no move was made, none of a hub was enabled
abbrev pub HaveRested : {M T : Type 0} → Machine M T → Nodes M T → Meaning T → ℕ → ℕ → Rows M T → Result Rest Refusal → Type 0
HaveRested mc kd m budget n g (Ok (Rests left)) = (n + left ≡ budget) × (left ≡ budget → AreHubsQuiet mc m g (length g.hubs))
HaveRested mc kd m budget n g (Ok Wakes) = (n ≡ budget) × IsAnyAwake mc kd m g
HaveRested mc kd m budget n g (Err r) = (n ≤ budget) × (r ≡ NoMemory)

-- the moves of the hub with this number, which deliver nothing
abbrev pub HasServed : {M T : Type 0} → Machine M T → Nodes M T → Meaning T → ℕ → ℕ → Rows M T → Result Rest Refusal → Rows M T → Type 0
HasServed {M} {T} mc kd m h budget old result new = (moves : List (Made T)) × HasRestedAt mc kd m h budget (length moves) new result × AreMade mc kd m old moves new × (delivered_by moves ≡ [])

-- those of all hubs
abbrev pub HaveServed : {M T : Type 0} → Machine M T → Nodes M T → Meaning T → ℕ → Rows M T → Result Rest Refusal → Rows M T → Type 0
HaveServed {M} {T} mc kd m budget old result new = (moves : List (Made T)) × HaveRested mc kd m budget (length moves) new result × AreMade mc kd m old moves new × (delivered_by moves ≡ [])
