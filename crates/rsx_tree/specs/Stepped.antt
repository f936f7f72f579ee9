-- A step of one node: a pick, or a row.
use Rattle.std.specs.Prelude.{◌≡◌, ◌⊎◌, ℕ, zero, suc, ◌-◌, ◌<◌, ◌≤◌, ◌^◌, Bool, true, false, ◌&&◌, nat_eq, nat_le, if◌then◌else◌, Option, Some, None}
use Rattle.rsx_sources.specs.Prelude.{Meaning, Allocates, note_then, Note, CountsStep, Keeps, Records}
use Rattle.rsx_sources.specs.declared.machine.Machine.{Ghosts as Machine}
use Rattle.rsx_tree.specs.Allocates.{IsNodeAlike}
use Rattle.rsx_tree.specs.declared.edge.Edge.{Edge}
use Rattle.rsx_tree.specs.declared.edge.EdgeState.{EdgeState}
use Rattle.rsx_tree.specs.declared.inputs.Inputs.{Inputs, End, More'}
use Rattle.rsx_tree.specs.declared.node.Node.{Node}
use Rattle.rsx_tree.specs.Edges.{EdgeView, is_live}
use Rattle.rsx_tree.specs.Inputs.{size, closed_row_if, tests}
use Rattle.rsx_tree.specs.Changed.{Hold}

-- a node with its edge: what is asked of it, what it sent, and whether signals still go over the edge
pub record Station (M : Type 0) : Type 0 where
  pub machine : M
  pub state : EdgeState
  pub asked : ℕ
  pub sent : ℕ

-- a node over its edge
abbrev pub over : {M : Type 0} → Edge → M → Station M
over e n = record { machine = n; state = e.state; asked = e.demand.asked; sent = e.demand.sent }

-- the node `at` of a row
abbrev pub station : {M : Type 0} → Inputs M → ℕ → Option (Station M)
station End at = None
station (More' e n p below q beside) at =
    if nat_eq at 0 then Some (over e n)
    else (if nat_le at (size below) then station below (at - 1) else station beside (at - 1 - size below))

-- its edge is live, and it can pick the input
abbrev pub can_pick_in : {M T : Type 0} → Machine M T → ℕ → Option (Station M) → Bool
can_pick_in b i o = tests (λ s. is_live s.state && b.picks s.machine i s.asked s.sent) o

-- its edge is live, and it can make a row
abbrev pub can_row_in : {M T : Type 0} → Machine M T → Option (Station M) → Bool
can_row_in b o = tests (λ s. is_live s.state && b.rows s.machine s.asked s.sent) o

-- whether a step of it may allocate
abbrev pub step_allocates_in : {M T : Type 0} → Machine M T → Allocates → Option (Station M) → Bool
step_allocates_in b a o = tests (λ s. b.step_allocates a s.machine) o

-- no step of it is enabled
abbrev pub IsStill : {M T : Type 0} → Machine M T → Option (Station M) → Type 0
IsStill b o = ((input : ℕ) → input < 2 ^ 64 → can_pick_in b input o ≡ false) × (can_row_in b o ≡ false)

-- what a step does to a node, of which so much is asked and which sent so much
abbrev pub Step : Type 0 → Type 1
Step M = M → ℕ → ℕ → M → Type 0

-- a pick: the node recorded it
pub record IsPickedHere {M T : Type 0} (b : Machine M T) (m : Meaning T) (i : ℕ) (n : M) (asked sent : ℕ) (n' : M) : Type 0 where
  pub can : b.picks n i asked sent ≡ true
  pub value : Records (b.comes_out m) n (b.recording n i) n'
  pub recorded : b.recorded n' ≡ note_then (b.recorded n) (b.recording n i)
  pub composes : (k : Note) → note_then (note_then (b.recorded n) (b.recording n i)) k ≡ note_then (b.recorded n) (note_then (b.recording n i) k)
  pub counts : CountsStep b.counted b.ended b.done n n'
  pub alike : IsNodeAlike b n n'

-- a row
pub record IsRowMadeHere {M T : Type 0} (b : Machine M T) (m : Meaning T) (n : M) (asked sent : ℕ) (n' : M) : Type 0 where
  pub can : b.rows n asked sent ≡ true
  pub row : b.rowed n asked sent n'
  pub value : Keeps (b.comes_out m) n n'
  pub recorded : b.recorded n' ≡ b.recorded n
  pub counts : CountsStep b.counted b.ended b.done n n'
  pub alike : IsNodeAlike b n n'

-- a pick, by what the node recorded
abbrev pub IsRecordedHere : {M T : Type 0} → Machine M T → ℕ → Step M
IsRecordedHere b i n asked sent n' = b.recorded n' ≡ note_then (b.recorded n) (b.recording n i)

-- a pick, by what the node is after it
abbrev pub IsAfterPick : {M T : Type 0} → Machine M T → ℕ → Step M
IsAfterPick b i n asked sent n' = b.picked n i n'

-- a step after which a node that had ended has, and an input that was done is
pub record StaysOver {M T : Type 0} (b : Machine M T) (n : M) (asked sent : ℕ) (n' : M) : Type 0 where
  pub ended : b.ended n ≡ true → b.ended n' ≡ true
  pub done : (j : ℕ) → b.done n j ≡ true → b.done n' j ≡ true

-- a pick of some input, or a row
abbrev pub IsStepOf : {M T : Type 0} → Machine M T → Meaning T → Step M
IsStepOf b m n asked sent n' = ((input : ℕ) × IsPickedHere b m input n asked sent n') ⊎ IsRowMadeHere b m n asked sent n'

-- a step was made of a node whose edge is live; where the node ended by it, all below it is closed
pub record IsStepOver {M : Type 0} (P : Step M) (ends : M → Bool) (e : Edge) (n : M) (below : Inputs M) (n' : M) (below' : Inputs M) : Type 0 where
  pub live : is_live e.state ≡ true
  pub made : P n e.demand.asked e.demand.sent n'
  pub shut : below' ≡ closed_row_if (ends n' && true) below

-- a pick of this input, and a row, as such a step
abbrev pub IsPickOver : {M T : Type 0} → Machine M T → Meaning T → ℕ → Edge → M → Inputs M → M → Inputs M → Type 0
IsPickOver b m i e n below n' below' = IsStepOver (IsPickedHere b m i) b.ended e n below n' below'

abbrev pub IsRowOver : {M T : Type 0} → Machine M T → Meaning T → Edge → M → Inputs M → M → Inputs M → Type 0
IsRowOver b m e n below n' below' = IsStepOver (IsRowMadeHere b m) b.ended e n below n' below'

pub record IsStepHere {M : Type 0} (P : Step M) (ends : M → Bool) (e : Edge) (n : M) (p : Hold) (below : Inputs M) (q : Hold) (beside : Inputs M) (at : ℕ) (new : Inputs M) : Type 0 where
  pub n' : M
  pub at_is : at ≡ 0
  pub live : is_live e.state ≡ true
  pub made : P n e.demand.asked e.demand.sent n'
  pub new_is : new ≡ More' e n' p (closed_row_if (ends n' && true) below) q beside

pub record IsStepBelow {M : Type 0} (Rec : Inputs M → Type 0) (e : Edge) (n : M) (p : Hold) (below : Inputs M) (q : Hold) (beside : Inputs M) (at : ℕ) (new : Inputs M) : Type 0 where
  pub below' : Inputs M
  pub above : 0 < at
  pub within : at ≤ size below
  pub made : Rec below'
  pub new_is : new ≡ More' e n p below' q beside

pub record IsStepBeside {M : Type 0} (Rec : Inputs M → Type 0) (e : Edge) (n : M) (p : Hold) (below : Inputs M) (q : Hold) (at : ℕ) (new : Inputs M) : Type 0 where
  pub beside' : Inputs M
  pub beyond : size below < at
  pub made : Rec beside'
  pub new_is : new ≡ More' e n p below q beside'

-- the node `at` of a row changed, and where it ended by it, all below it is closed
abbrev pub IsStepped : {M : Type 0} → Step M → (M → Bool) → Inputs M → ℕ → Inputs M → Type 0
IsStepped P ends End at new = ⊥
IsStepped P ends (More' e n p below q beside) at new =
    IsStepHere P ends e n p below q beside at new
    ⊎ (IsStepBelow (λ below'. IsStepped P ends below (at - 1) below') e n p below q beside at new
    ⊎ IsStepBeside (λ beside'. IsStepped P ends beside (at - 1 - size below) beside') e n p below q at new)

-- ---- a step of a tree

-- the node `at` of a tree, whose root has the number 0 and this edge
abbrev pub station_of : {M : Type 0} → Node M → EdgeView → ℕ → Option (Station M)
station_of t e zero = Some (record { machine = t.machine; state = e.state; asked = e.asked; sent = e.sent })
station_of t e (suc at) = station t.inputs at

-- whether a step of it may allocate
abbrev pub step_allocates : {M T : Type 0} → Machine M T → Allocates → Node M → EdgeView → ℕ → Bool
step_allocates b a t e at = step_allocates_in b a (station_of t e at)

-- the root changed, and where it ended by it, all below it is closed
pub record IsRootStepped {M : Type 0} (P : Step M) (ends : M → Bool) (old : Node M) (e : EdgeView) (new : Node M) : Type 0 where
  pub live : is_live e.state ≡ true
  pub made : P old.machine e.asked e.sent new.machine
  pub inputs : new.inputs ≡ closed_row_if (ends new.machine && true) old.inputs

-- a node below the root changed
pub record IsSteppedBelow {M : Type 0} (P : Step M) (ends : M → Bool) (old : Node M) (at : ℕ) (new : Node M) : Type 0 where
  pub machine : new.machine ≡ old.machine
  pub made : IsStepped P ends old.inputs at new.inputs

-- the node `at` of a tree changed, and where it ended by it, all below it is closed
abbrev pub IsSteppedAt : {M : Type 0} → Step M → (M → Bool) → Node M → EdgeView → ℕ → Node M → Type 0
IsSteppedAt P ends old e zero new = IsRootStepped P ends old e new
IsSteppedAt P ends old e (suc at) new = IsSteppedBelow P ends old at new

-- what a pick makes of the node `at`, where that is a call of its own: no more than the node says of it
abbrev pub IsAfterPickAt : {M T : Type 0} → Machine M T → ℕ → Node M → EdgeView → ℕ → Node M → Type 0
IsAfterPickAt b i old e at new = IsSteppedAt (IsAfterPick b i) b.ended old e at new

-- a pick of this input by the node `at`, and a row of it
abbrev pub IsPickMadeAt : {M T : Type 0} → Machine M T → Meaning T → ℕ → Node M → EdgeView → ℕ → Node M → Type 0
IsPickMadeAt b m i old e at new = IsSteppedAt (IsPickedHere b m i) b.ended old e at new

abbrev pub IsRowMadeAt : {M T : Type 0} → Machine M T → Meaning T → Node M → EdgeView → ℕ → Node M → Type 0
IsRowMadeAt b m old e at new = IsSteppedAt (IsRowMadeHere b m) b.ended old e at new
