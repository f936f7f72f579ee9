-- Items that go through nodes several at once: the single calls and moves that do the same, item by item.
use Rattle.std.specs.Prelude.{◌≡◌, ◌⊎◌, ℕ, ◌+◌, ◌-◌, ◌<◌, Bool, true, false, List, [], ◌∷◌, None}
use Rattle.rsx_sources.specs.Prelude.{Meaning, Next, IsItemOut, IsTakenIn}
use Rattle.rsx_sources.specs.declared.machine.Machine.{Ghosts as Machine}
use Rattle.rsx_tree.specs.Allocates.{IsNodeAlike}
use Rattle.rsx_tree.specs.Driven.{IsRowRun}
use Rattle.rsx_tree.specs.Edges.{EdgeView, is_live}
use Rattle.rsx_tree.specs.Stepped.{IsStepOf}
use Rattle.rsx_tree.specs.declared.inputs.Inputs.{Inputs}

-- how many items more may go over an edge, by whether it is live
abbrev pub room_of : ℕ → ℕ → Bool → ℕ
room_of asked sent true = asked - sent
room_of asked sent false = 0

abbrev pub room : EdgeView → ℕ
room v = room_of v.asked v.sent (is_live v.state)

-- so many items were counted as sent over an edge
abbrev pub carried : EdgeView → ℕ → EdgeView
carried v k = record { asked = v.asked; sent = v.sent + k; state = v.state }

-- each of these items went out of a node that offered it, one after the other
abbrev pub ArePopped : {T S : Type 0} → (S → T → S → Type 0) → S → List T → S → Type 0
ArePopped out old [] new = new ≡ old
ArePopped {T} {S} out old (x ∷ xs) new = (mid : S) × out old x mid × ArePopped out mid xs new

-- the node took each of these items in, and what it put out for one went out of it before the next
abbrev pub ArePassed : {T S : Type 0} → (S → T → S → Type 0) → (S → T → S → Type 0) → S → List T → List T → S → Type 0
ArePassed taken out old [] ys new = (ys ≡ []) × (new ≡ old)
ArePassed {T} {S} taken out old (x ∷ xs) ys new =
    (mid : S) × taken old x mid
    × (ArePassed taken out mid xs ys new
    ⊎ ((y : T) × (others : List T) × (after : S) × (ys ≡ y ∷ others) × out mid y after × ArePassed taken out after xs others new))

-- an item of input i was taken in, and the node has not ended by it
abbrev pub IsIn : {M T : Type 0} → Machine M T → Meaning T → ℕ → M → T → M → Type 0
IsIn b m i old x new = IsTakenIn (b.comes_out m) b.takes b.recorded b.counted b.ended b.done old i (Next x) new × IsNodeAlike b old new

-- the item that waited in a node went out of it, which records nothing as it goes, and the same of its calls may allocate
abbrev pub IsOut : {M T : Type 0} → Machine M T → Meaning T → M → T → M → Type 0
IsOut b m n x n' = IsItemOut (b.comes_out m) (b.waiting m) b.popped b.recorded b.counted b.ended b.done n x n' × IsNodeAlike b n n' × (b.popping n ≡ None)

-- how many steps a node makes for so many items: one for each, or none
abbrev pub steps_for : Bool → ℕ → ℕ
steps_for true n = n
steps_for false n = 0

-- an item went out of a node: it waited there; or, of a node that puts out each item by a step, a pick or a row put it out, where
-- more is asked of the node than it sent
abbrev pub IsOutBy : {M T : Type 0} → Machine M T → Meaning T → Bool → M → T → M → Type 0
IsOutBy b m false = IsOut b m
IsOutBy {M} b m true = λ n x n'. (asked sent : ℕ) → sent < asked → (mid : M) × IsStepOf b m n asked sent mid × (b.ended mid ≡ false) × IsOut b m mid x n'

-- so many moves of the row and steps of its receiver, among which these items went out of the receiver one after the other, each of
-- which was counted as sent before the next move
abbrev pub IsRowBatch : {M T : Type 0} → Machine M T → Meaning T → Bool → ℕ → ℕ → ℕ → ℕ → M → Inputs M → List T → M → Inputs M → Type 0
IsRowBatch b m by count i asked sent r t [] r' t' = IsRowRun b m true count i asked sent r t r' t'
IsRowBatch {M} b m by count i asked sent r t (x ∷ xs) r' t' =
    (first : ℕ) × (rest : ℕ) × (r1 : M) × (t1 : Inputs M) × (r2 : M) × (first + steps_for by 1 + rest ≡ count)
    × IsRowRun b m true first i asked sent r t r1 t1 × IsOutBy b m by r1 x r2 × IsRowBatch b m by rest i asked (sent + 1) r2 t1 xs r' t'
