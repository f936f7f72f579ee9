-- Runs of moves, one after the other.
use Rattle.std.specs.Prelude.{◌≡◌, ◌⊎◌, ℕ, ◌+◌, ◌<◌, ◌≤◌, ◌^◌, Bool, true, false, ◌&&◌, Some, Result, Ok, Err}
use Rattle.rsx_types.specs.Meaning.{Meaning}
use Rattle.rsx_sources.specs.declared.machine.Machine.{Ghosts as Machine}
use Rattle.rsx_tree.specs.declared.edge.Edge.{Edge}
use Rattle.rsx_tree.specs.declared.inputs.Inputs.{Inputs, More'}
use Rattle.rsx_tree.specs.declared.inputs.Pass.{Pass}
use Rattle.rsx_tree.specs.declared.node.Node.{Node}
use Rattle.rsx_tree.specs.Edges.{edge_view}
use Rattle.rsx_tree.specs.Inputs.{place, is_own, can_ask_in, can_ask_over, can_send_in, can_send_over}
use Rattle.rsx_tree.specs.Allocates.{IsAlike}
use Rattle.rsx_tree.specs.Balance.{IsBalanced}
use Rattle.rsx_tree.specs.Changed.{Hold, IsAskedIn, IsSentIn}
use Rattle.rsx_tree.specs.Chosen.{IsChosen}
use Rattle.rsx_tree.specs.Runs.{LeadsBy}
use Rattle.rsx_tree.specs.Stepped.{IsStepped, IsPickedHere, IsRowMadeHere, IsStill, over, station}
use Rattle.rsx_tree.specs.Tree.{IsAskedAt, IsSentAt, can_ask, can_send}

-- ---- a move of a row, whose first edge is input `i` of `r`; `ends` says that `r` ended by it, so that its owner closes the row

pub record IsAskMade {M T : Type 0} (b : Machine M T) (r : M) (i asked sent : ℕ) (t : Inputs M) (at : ℕ) (ends : Bool) (r' : M) (t' : Inputs M) : Type 0 where
  pub made : IsAskedIn b r i asked sent t at r' t'
  pub stays : ends ≡ false

pub record IsSendMade {M T : Type 0} (b : Machine M T) (m : Meaning T) (r : M) (i : ℕ) (t : Inputs M) (at : ℕ) (ends : Bool) (r' : M) (t' : Inputs M) : Type 0 where
  pub made : IsSentIn b m r i t at r' t'
  pub ends_is : ends ≡ (b.ended r' && is_own t at)

-- a pick or a row of the node `at` of the row
pub record IsStepMade {M T : Type 0} (b : Machine M T) (m : Meaning T) (r : M) (t : Inputs M) (at : ℕ) (ends : Bool) (r' : M) (t' : Inputs M) : Type 0 where
  pub made : ((input : ℕ) × IsStepped (IsPickedHere b m input) b.ended t at t') ⊎ IsStepped (IsRowMadeHere b m) b.ended t at t'
  pub receiver : r' ≡ r
  pub stays : ends ≡ false

-- an enabled move was made; picks and rows only where `steps`
abbrev pub IsMade : {M T : Type 0} → Machine M T → Meaning T → Bool → M → ℕ → ℕ → ℕ → Inputs M → ℕ → Bool → M → Inputs M → Type 0
IsMade b m steps r i asked sent t at ends r' t' =
    IsAskMade b r i asked sent t at ends r' t' ⊎ (IsSendMade b m r i t at ends r' t' ⊎ ((steps ≡ true) × IsStepMade b m r t at ends r' t'))

-- the same over the row's first edge, or of its sender, where `below` are the sender's inputs, whatever is beside it
abbrev pub IsMadeOver : {M T : Type 0} → Machine M T → Meaning T → M → ℕ → ℕ → ℕ → Edge → M → Inputs M → Bool → M → Edge → M → Inputs M → Type 0
IsMadeOver {M} b m r i asked sent e n below ends r' e' n' below' =
    (p q : Hold) (beside : Inputs M) → IsMade b m true r i asked sent (More' e n p below q beside) 0 ends r' (More' e' n' p below' q beside)

-- some move of a row, by which its receiver didn't end, leads from one receiver and row to others
abbrev pub IsRowStep : {M T : Type 0} → Machine M T → Meaning T → Bool → ℕ → ℕ → ℕ → M × Inputs M → M × Inputs M → Type 0
IsRowStep b m steps i asked sent x y = (at : ℕ) × IsMade b m steps x.0 i asked sent x.1 at false y.0 y.1

-- so many moves of the row, by none of which its receiver ended
abbrev pub IsRowRun : {M T : Type 0} → Machine M T → Meaning T → Bool → ℕ → ℕ → ℕ → ℕ → M → Inputs M → M → Inputs M → Type 0
IsRowRun b m steps n i asked sent r t r' t' = LeadsBy (IsRowStep b m steps i asked sent) n (r, t) (r', t')

-- so many moves and then one by which the receiver of the row ended
pub record IsRowEnded {M T : Type 0} (b : Machine M T) (m : Meaning T) (steps : Bool) (n i asked sent : ℕ) (r : M) (t : Inputs M) (r' : M) (t' : Inputs M) : Type 0 where
  pub before : ℕ
  pub count : n ≡ before + 1
  pub r1 : M
  pub t1 : Inputs M
  pub at : ℕ
  pub run : IsRowRun b m steps before i asked sent r t r1 t1
  pub last : IsMade b m steps r1 i asked sent t1 at true r' t'

-- so many moves of the row; `over` says that its receiver ended by the last
abbrev pub IsRowDriven : {M T : Type 0} → Machine M T → Meaning T → Bool → ℕ → Bool → ℕ → ℕ → ℕ → M → Inputs M → M → Inputs M → Type 0
IsRowDriven b m steps n false i asked sent r t r' t' = IsRowRun b m steps n i asked sent r t r' t'
IsRowDriven b m steps n true i asked sent r t r' t' = IsRowEnded b m steps n i asked sent r t r' t'

-- so many of the budget were spent
abbrev pub SpentPass : {E : Type 0} → ℕ → ℕ → Result Pass E → Type 0
SpentPass budget n (Ok p) = n + p.left ≡ budget
SpentPass budget n (Err e) = n ≤ budget

abbrev pub is_over_in : {E : Type 0} → Result Pass E → Bool
is_over_in (Ok p) = p.is_over
is_over_in (Err e) = false

-- a pass over a row made so many moves as the budget fell by, and its answer says whether the row's receiver ended
abbrev pub IsPass : {M T E : Type 0} → Machine M T → Meaning T → ℕ → ℕ → ℕ → ℕ → M → Inputs M → Result Pass E → M → Inputs M → Type 0
IsPass b m budget i asked sent r t result r' t' =
    (n : ℕ) × SpentPass budget n result × IsRowDriven b m true n (is_over_in result) i asked sent r t r' t'

-- over this edge neither an Ask nor a Send is enabled, nor a step of its sender
pub record IsRestOver {M T : Type 0} (b : Machine M T) (m : Meaning T) (r : M) (i asked sent : ℕ) (e : Edge) (n : M) : Type 0 where
  pub ask : can_ask_over b r i asked sent (edge_view e) n ≡ false
  pub send : can_send_over b m r i (edge_view e) n ≡ false
  pub still : IsStill b (Some (over e n))

-- over the edge `at` of the row neither an Ask nor a Send is enabled, nor a step of its node
abbrev pub IsRestAt : {M T : Type 0} → Machine M T → Meaning T → M → ℕ → ℕ → ℕ → Inputs M → ℕ → Type 0
IsRestAt b m r i asked sent t at = (can_ask_in b (place r i asked sent t at) ≡ false) × (can_send_in b m (place r i asked sent t at) ≡ false) × IsStill b (station t at)

-- no move of the row that has a number is enabled
abbrev pub IsRowIdle : {M T : Type 0} → Machine M T → Meaning T → M → ℕ → ℕ → ℕ → Inputs M → Type 0
IsRowIdle b m r i asked sent t = (at : ℕ) → i + at < 2 ^ 64 → IsRestAt b m r i asked sent t at

-- ---- a tree

-- so many of the budget were spent, where the answer is how many are left
abbrev pub Spent : {E : Type 0} → ℕ → ℕ → Result ℕ E → Type 0
Spent budget n (Ok left) = n + left ≡ budget
Spent budget n (Err e) = n ≤ budget

-- an enabled move below the root was made, with its effect; picks and rows only where `steps`
pub record IsAdvanced {M T : Type 0} (b : Machine M T) (m : Meaning T) (steps : Bool) (old : Node M) (asked sent : ℕ) (new : Node M) : Type 0 where
  pub at : ℕ
  pub made : ((can_ask b old at asked sent ≡ true) × IsAskedAt b old at asked sent new)
      ⊎ (((can_send b m old at ≡ true) × IsSentAt b m old at new)
      ⊎ ((steps ≡ true) × IsStepMade b m old.machine old.inputs at false new.machine new.inputs))
  pub chosen : IsChosen b m old new
  pub balance : (s : ℕ) → IsBalanced b old s → IsBalanced b new s
  pub alike : IsAlike b old new

-- so many enabled moves lead from the first tree to the second
abbrev pub IsDriven : {M T : Type 0} → Machine M T → Meaning T → Bool → ℕ → Node M → ℕ → ℕ → Node M → Type 0
IsDriven b m steps n old asked sent new = LeadsBy (λ x y. IsAdvanced b m steps x asked sent y) n old new

-- over the edge `at` below the root neither an Ask nor a Send is enabled, nor a step of its node
abbrev pub IsIdleAt : {M T : Type 0} → Machine M T → Meaning T → Node M → ℕ → ℕ → ℕ → Type 0
IsIdleAt b m t asked sent at = (can_ask b t at asked sent ≡ false) × (can_send b m t at ≡ false) × IsStill b (station t.inputs at)

-- no move over an edge below the root, or of a node there, is enabled, of those that have a number
abbrev pub IsIdle : {M T : Type 0} → Machine M T → Meaning T → Node M → ℕ → ℕ → Type 0
IsIdle b m t asked sent = (at : ℕ) → at < 2 ^ 64 → IsIdleAt b m t asked sent at
