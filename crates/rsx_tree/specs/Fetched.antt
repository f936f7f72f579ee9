-- An item that is pulled through a tree in one go: the moves that lead to a tree whose root offers it, and then the item out.
use Rattle.std.specs.Prelude.{◌≡◌, ◌⊎◌, ℕ, ◌+◌, ◌<◌, true, false, Option, Some, None}
use Rattle.rsx_sources.specs.Prelude.{Meaning, Next, Note, CountsOut, LetsGo}
use Rattle.rsx_sources.specs.declared.machine.Machine.{Ghosts as Machine}
use Rattle.rsx_tree.specs.declared.edge.Edge.{Edge}
use Rattle.rsx_tree.specs.declared.fetch.Handed.{Handed}
use Rattle.rsx_tree.specs.declared.fetch.Handed.TheVariants.{Item, Kept, Back}
use Rattle.rsx_tree.specs.declared.fetch.Pulled.{Pulled}
use Rattle.rsx_tree.specs.declared.fetch.Pulled.TheVariants.{Item as AnItem, Moved, Nothing}
use Rattle.rsx_tree.specs.declared.inputs.Inputs.{Inputs, More'}
use Rattle.rsx_tree.specs.declared.node.Node.{Node}
use Rattle.rsx_tree.specs.Allocates.{IsAlike, IsNodeAlike}
use Rattle.rsx_tree.specs.Balance.{IsBalanced}
use Rattle.rsx_tree.specs.Changed.{Hold, IsCarried, IsReadyBy}
use Rattle.rsx_tree.specs.Chosen.{IsChosen, IsPickedAt, IsRowAt}
use Rattle.rsx_tree.specs.Driven.{IsDriven, IsRowRun}
use Rattle.rsx_tree.specs.Edges.{EdgeView}
use Rattle.rsx_tree.specs.Stepped.{IsPickMadeAt, IsRowMadeAt, IsStepOf, IsStepOver, can_pick_in, can_row_in, station_of}
use Rattle.rsx_tree.specs.Tree.{IsLetGo}

-- the item that waited in a node went out of it, which recorded it where there is a note, and the same of its calls may allocate
pub record IsOut {M T : Type 0} (b : Machine M T) (m : Meaning T) (n : M) (x : T) (n' : M) : Type 0 where
  pub waited : b.waiting m n ≡ Some (Next x)
  pub popped : b.popped n (Next x) n'
  pub note : Option Note
  -- what was recorded is what the node said; that nothing was is left open, for an item that goes through the node in one go
  pub noting : (note ≡ b.popping n) ⊎ (note ≡ None)
  pub ready : M
  pub noted : IsReadyBy b m note n ready
  pub value : LetsGo (b.comes_out m) ready (Next x) n'
  pub notes : b.recorded n' ≡ b.recorded ready
  pub counts : CountsOut b.counted b.ended b.done n (Some (Next x)) n'
  pub alike : IsNodeAlike b n n'

-- a pick or a row was made of a node whose edge is live, and then the item that waited in it went out; where the node ended by it,
-- all below it is closed. With no item nothing has changed.
abbrev pub IsStepOut : {M T : Type 0} → Machine M T → Meaning T → Edge → M → Inputs M → Option T → M → Inputs M → Type 0
IsStepOut {M} b m e n below (Some x) n' below' = (mid : M) × IsStepOver (IsStepOf b m) b.ended e n below mid below' × IsOut b m mid x n'
IsStepOut b m e n below None n' below' = (n' ≡ n) × (below' ≡ below)

-- what came of an item that was taken out of the sender `n` of input i of a receiver: it went over the edge, one move of the
-- budget, and what the receiver put out first went out of it again, or it put out nothing; or the item went back
abbrev pub IsHanded : {M T : Type 0} → Machine M T → Meaning T → ℕ → ℕ → M → Edge → M → Handed T → ℕ → M → Edge → M → Type 0
IsHanded {M} b m budget i r e n (Item x) left r' e' n' =
    (mid : M) × (left + 1 ≡ budget) × IsCarried b m r i e n mid e' n' × (b.ended mid ≡ false) × IsOut b m mid x r'
IsHanded b m budget i r e n Kept left r' e' n' =
    (left + 1 ≡ budget) × IsCarried b m r i e n r' e' n' × (b.ended r' ≡ false)
IsHanded b m budget i r e n Back left r' e' n' = (left ≡ budget) × (r' ≡ r) × (e' ≡ e) × (n' ≡ n)

-- so many moves of the sender `n` over this edge and of its inputs, whatever its receiver is and what is beside it
abbrev pub IsRunOver : {M T : Type 0} → Machine M T → Meaning T → ℕ → Edge → M → Inputs M → M → Inputs M → Type 0
IsRunOver {M} b m count e n below n' below' =
    (r : M) (i asked sent : ℕ) (p q : Hold) (beside : Inputs M) → IsRowRun b m true count i asked sent r (More' e n p below q beside) r (More' e n' p below' q beside)

-- what came of the way to an item of a sender: moves, so many as the budget fell by, led to a sender that offers this item,
-- which then went out of it; or some moves were made, and no more
abbrev pub IsPulled : {M T : Type 0} → Machine M T → Meaning T → ℕ → Edge → M → Inputs M → Pulled T → ℕ → M → Inputs M → Type 0
IsPulled {M} b m budget e n below (AnItem x) left n' below' =
    (count : ℕ) × (mid : M) × (count + left ≡ budget) × IsRunOver b m count e n below mid below' × IsOut b m mid x n'
IsPulled b m budget e n below Moved left n' below' = (count : ℕ) × (count + left ≡ budget) × (left < budget) × IsRunOver b m count e n below n' below'
IsPulled b m budget e n below Nothing left n' below' = (count : ℕ) × (count + left ≡ budget) × IsRunOver b m count e n below n' below'

-- enabled moves of a row, so many as the budget fell by, lead to a receiver that offers the item, which then went out of it;
-- with no item they are all that was done. The row's first edge is input i of the receiver.
abbrev pub IsRowFetched : {M T : Type 0} → Machine M T → Meaning T → ℕ → ℕ → ℕ → ℕ → M → Inputs M → Option T → ℕ → M → Inputs M → Type 0
IsRowFetched {M} b m budget i asked sent r t (Some x) left r' t' =
    (n : ℕ) × (mid : M) × (n + left ≡ budget) × IsRowRun b m true n i asked sent r t mid t' × IsOut b m mid x r'
IsRowFetched b m budget i asked sent r t None left r' t' = (n : ℕ) × (n + left ≡ budget) × IsRowRun b m true n i asked sent r t r' t'

-- enabled moves, so many as the budget fell by, lead from one tree to another
pub record IsLed {M T : Type 0} (b : Machine M T) (m : Meaning T) (budget : ℕ) (old : Node M) (asked sent left : ℕ) (new : Node M) : Type 0 where
  pub count : ℕ
  pub spent : count + left ≡ budget
  pub run : IsDriven b m true count old asked sent new
  pub chosen : IsChosen b m old new
  pub balance : (s : ℕ) → IsBalanced b old s → IsBalanced b new s
  pub alike : IsAlike b old new

-- they lead to a tree whose root offers the item, which then went out of it; with no item they are all that was done
abbrev pub IsFetched : {M T : Type 0} → Machine M T → Meaning T → ℕ → Node M → ℕ → ℕ → Option T → ℕ → Node M → Type 0
IsFetched {M} b m budget old asked sent (Some x) left new = (mid : Node M) × IsLed b m budget old asked sent left mid × IsLetGo b m mid (Next x) new
IsFetched b m budget old asked sent None left new = IsLed b m budget old asked sent left new

-- ---- a step of the root, and the item out

-- the root, over this edge, picked the input
pub record IsRootPick {M T : Type 0} (b : Machine M T) (m : Meaning T) (old : Node M) (e : EdgeView) (input : ℕ) (new : Node M) : Type 0 where
  pub enabled : can_pick_in b input (station_of old e 0) ≡ true
  pub made : IsPickMadeAt b m input old e 0 new
  pub effect : IsPickedAt b old e 0 input new

-- it made a row
pub record IsRootRow {M T : Type 0} (b : Machine M T) (m : Meaning T) (old : Node M) (e : EdgeView) (new : Node M) : Type 0 where
  pub enabled : can_row_in b (station_of old e 0) ≡ true
  pub made : IsRowMadeAt b m old e 0 new
  pub effect : IsRowAt b old e 0 new

-- it picked some input, or made a row
pub record IsRootStep {M T : Type 0} (b : Machine M T) (m : Meaning T) (old : Node M) (e : EdgeView) (new : Node M) : Type 0 where
  pub step : ((input : ℕ) × IsRootPick b m old e input new) ⊎ IsRootRow b m old e new
  pub chosen : IsChosen b m old new
  pub balance : (s : ℕ) → IsBalanced b old s → IsBalanced b new s
  pub alike : IsAlike b old new

-- it did, and then the item that it offered went out of it; with no item nothing has changed
abbrev pub IsRootStepOut : {M T : Type 0} → Machine M T → Meaning T → Node M → EdgeView → Option T → Node M → Type 0
IsRootStepOut {M} b m old e (Some x) new = (mid : Node M) × IsRootStep b m old e mid × IsLetGo b m mid (Next x) new
IsRootStepOut b m old e None new = new ≡ old
