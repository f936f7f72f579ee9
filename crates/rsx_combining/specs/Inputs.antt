-- The inputs of a zip: what is still to come of each, and what can be done with it.
use Rattle.std.specs.Prelude.{◌≡◌, ℕ, zero, suc, ◌^◌, nat_lt, Bool, true, false, ◌&&◌, if◌then◌else◌, List, [], ◌∷◌, drop, slice_get, Option, Some, None}
use Rattle.rsx_sources.specs.Prelude.{Meaning, Open, Signal, Next, Complete, Error, Stream, ended_by}
use Rattle.rsx_sources.specs.declared.machine.Passed.{Passed}
use Rattle.rsx_sources.specs.declared.machine.Passed.TheVariants.{Item, Kept, Declined}
use Rattle.rsx_demand.specs.Demand.{saturating_total}
use Rattle.rsx_prefetch.specs.Queue.{queue}
use Rattle.rsx_queued.specs.declared.input.QueuedInput.{QueuedInput}
use Rattle.rsx_values.specs.Zip.{heads}
use Rattle.rsx_queued.specs.Prelude.{still, next_signal, with_signal, IsCounted, is_gone, next_signal_at, head_of, tail_of}

-- of an input whose ending was taken nothing comes
abbrev pub or_nothing : {T : Type 0} → Option (Stream T) → Stream T
or_nothing None = ended_by Open
or_nothing (Some v) = v

-- what is still to come of an input at which v still comes in
abbrev pub left : {T : Type 0} → QueuedInput T → Stream T → Stream T
left q v = or_nothing (still q v)

-- what is still to come of each input, where these values still come in
abbrev pub lefts : {T : Type 0} → List (QueuedInput T) → List (Stream T) → List (Stream T)
lefts [] vs = []
lefts (q ∷ qs) vs = left q (head_of vs) ∷ lefts qs (tail_of vs)

-- ---- what is next

abbrev pub is_item : {T : Type 0} → Option (Signal T) → Bool
is_item None = false
is_item (Some (Next x)) = true
is_item (Some Complete) = false
is_item (Some (Error c)) = false

-- the next signal of an input, where that is an ending
abbrev pub ending_only : {T : Type 0} → Option (Signal T) → Option (Signal T)
ending_only None = None
ending_only (Some (Next x)) = None
ending_only (Some Complete) = Some Complete
ending_only (Some (Error c)) = Some (Error c)

-- the ending that is next at the input with this number, which has to fit a u32
abbrev pub ending_at : {T : Type 0} → List (QueuedInput T) → ℕ → Option (Signal T)
ending_at qs i = if nat_lt i (2 ^ 32) then ending_only (next_signal_at (slice_get qs i)) else None

-- an item is next at each input
abbrev pub all_have_items : {T : Type 0} → List (QueuedInput T) → Bool
all_have_items [] = true
all_have_items (q ∷ qs) = is_item (next_signal q) && all_have_items qs

-- the items of each queue
abbrev pub queued : {T : Type 0} → List (QueuedInput T) → List (List T)
queued [] = []
queued (q ∷ qs) = q.queue.items ∷ queued qs

-- an input whose first item was taken out
abbrev pub shortened : {T : Type 0} → QueuedInput T → QueuedInput T
shortened q = record q { queue = queue (drop 1 q.queue.items) q.queue.capacity (saturating_total q.queue.taken 1) }

abbrev pub all_shortened : {T : Type 0} → List (QueuedInput T) → List (QueuedInput T)
all_shortened [] = []
all_shortened (q ∷ qs) = shortened q ∷ all_shortened qs

abbrev pub is_some_input : {T : Type 0} → List (QueuedInput T) → Bool
is_some_input [] = false
is_some_input (q ∷ qs) = true

-- the row of the next item of each input, which was taken out of it
pub record IsNextRow {T : Type 0} (m : Meaning T) (old : List (QueuedInput T)) (row : T) (new : List (QueuedInput T)) : Type 0 where
  pub some_input : is_some_input old ≡ true
  pub items : all_have_items old ≡ true
  pub gives : row ≡ m.row_of (heads (queued old))
  pub taken : new ≡ all_shortened old

-- ---- what comes in

-- the inputs with this signal put in at input i
abbrev pub with_signal_at : {T : Type 0} → List (QueuedInput T) → ℕ → Signal T → List (QueuedInput T)
with_signal_at [] i s = []
with_signal_at (q ∷ qs) zero s = with_signal q s ∷ qs
with_signal_at (q ∷ qs) (suc i) s = q ∷ with_signal_at qs i s

-- what came of an item that was to go through a node that only queues it: where it was taken in, the node is as this state
-- says, and nothing went out; else the item comes back, and nothing has changed
abbrev pub IsQueued : {T S : Type 0} → Bool → S → S → T → Passed T → S → Type 0
IsQueued takes_it queued old x (Item y) new = ⊥
IsQueued takes_it queued old x Kept new = (takes_it ≡ true) × (new ≡ queued)
IsQueued takes_it queued old x (Declined y) new = (takes_it ≡ false) × (y ≡ x) × (new ≡ old)

-- each input took so many items in, and none is gone
abbrev pub AllCounted : {T : Type 0} → List (QueuedInput T) → List ℕ → Type 0
AllCounted [] [] = Unit {0}
AllCounted [] (c ∷ cs) = ⊥
AllCounted (q ∷ qs) [] = ⊥
AllCounted (q ∷ qs) (c ∷ cs) = IsCounted q c × (is_gone q ≡ false) × AllCounted qs cs
