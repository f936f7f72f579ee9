-- The plain operators from a state.
use Rattle.std.specs.Prelude.{◌≡◌, ◌<◌, ℕ, zero, ◌+◌, ◌-◌, ◌*◌, min, Bool, true, false, ◌||◌, nat_eq, nat_le, if◌then◌else◌, List, [], ◌∷◌, ◌++◌, length, Option, Some, None, Result, Ok, Err}
use Rattle.std.specs.Set.{is_member}
use Rattle.rsx_demand.specs.declared.TheConstants.{UNBOUNDED}
use Rattle.rsx_sources.specs.Prelude.{Signal, Next, Complete, Error, Stage, Meaning, Allocates, mapped_items, filtered_items, taken_items, scanned_items, buffered_items, distinct_items, Stream}
use Rattle.rsx_types.specs.declared.stage.Stage.TheVariants.{Map, Filter, Take, Scan, Buffer, Distinct}
use Rattle.rsx_plain.specs.Moves.{Moves, EndsLast, has_ending}
use Rattle.rsx_plain.specs.declared.prepared.Pending.{Pending}
use Rattle.rsx_plain.specs.declared.prepared.Pending.TheVariants.{Nothing, Kept, Forwarded, Accumulated, Gathered}
use Rattle.rsx_plain.specs.declared.state.PlainState.{PlainState}
use Rattle.rsx_plain.specs.declared.state.PlainState.TheVariants.{Map as MapFrom, Filter as FilterFrom, Take as TakeFrom, Scan as ScanFrom, Buffer as BufferFrom, Distinct as DistinctFrom}

-- the operator from a state on, of what still comes in
abbrev pub plain_from : {T : Type 0} → Meaning T → PlainState T → Stream T → Stream T
plain_from m (MapFrom f) v = mapped_items (m.mapped f) v.items v.ending
plain_from m (FilterFrom f n) v = filtered_items (m.tested f) v.items v.ending
plain_from m (TakeFrom n left) v = taken_items left v.items v.ending
plain_from m (ScanFrom f a) v = scanned_items (m.folded f) a v.items v.ending
plain_from m (BufferFrom n xs) v = buffered_items m.list_of n xs v.items v.ending
plain_from m (DistinctFrom f ks n) v = distinct_items (m.keyed f) ks v.items v.ending

-- the state in which an operator begins
abbrev pub plain_start : {T : Type 0} → Stage T → PlainState T
plain_start (Map f) = MapFrom f
plain_start (Filter f) = FilterFrom f 0
plain_start (Take n) = TakeFrom n n
plain_start (Scan f s) = ScanFrom f s
plain_start (Buffer n) = BufferFrom n []
plain_start (Distinct f) = DistinctFrom f [] 0

-- what stands in the slot at the start: the seed of `scan`, and the completion of `take 0`
abbrev pub start_slot : {T : Type 0} → Stage T → List (Signal T)
start_slot (Take zero) = Complete ∷ []
start_slot (Scan f s) = Next s ∷ []
start_slot g = []

-- an item whose test is false is one more that was dropped
abbrev pub dropped_after : ℕ → Result Bool ℕ → ℕ
dropped_after n (Ok true) = n
dropped_after n (Ok false) = min UNBOUNDED (n + 1)
dropped_after n (Err c) = n

-- the accumulation after an answer; a fault leaves it
abbrev pub last_after : {T : Type 0} → T → Result T ℕ → T
last_after a (Ok b) = b
last_after a (Err c) = a

-- the gathered items after one more; where their list is full it came out
abbrev pub gathered_after : {T : Type 0} → ℕ → List T → T → List T
gathered_after n xs x = if nat_le n (length xs + 1) then [] else xs ++ x ∷ []

-- the state of a `distinct` after a key
abbrev pub distinct_after : {T : Type 0} → ℕ → List ℕ → ℕ → Result ℕ ℕ → PlainState T
distinct_after f ks n (Ok k) =
    if is_member nat_eq ks k then DistinctFrom f ks (min UNBOUNDED (n + 1)) else DistinctFrom f (ks ++ k ∷ []) n
distinct_after f ks n (Err c) = DistinctFrom f ks n

-- the state after an item
abbrev pub after_item : {T : Type 0} → Meaning T → PlainState T → T → PlainState T
after_item m (MapFrom f) x = MapFrom f
after_item m (FilterFrom f n) x = FilterFrom f (dropped_after n (m.tested f x))
after_item m (TakeFrom n left) x = TakeFrom n (left - 1)
after_item m (ScanFrom f a) x = ScanFrom f (last_after a (m.folded f a x))
after_item m (BufferFrom n xs) x = BufferFrom n (gathered_after n xs x)
after_item m (DistinctFrom f ks n) x = distinct_after f ks n (m.keyed f x)

-- the state after an ending: the items that were gathered came out or were dropped; any other operator stays as it was
abbrev pub after_ending : {T : Type 0} → PlainState T → PlainState T
after_ending (BufferFrom n xs) = BufferFrom n []
after_ending s = s

-- the state after a signal
abbrev pub after_signal : {T : Type 0} → Meaning T → PlainState T → Signal T → PlainState T
after_signal m state (Next x) = after_item m state x
after_signal m state Complete = after_ending state
after_signal m state (Error c) = after_ending state

-- how many items came in and how many were put out, as long as no ending was; a count of dropped items that has reached
-- its limit says nothing more
abbrev pub balanced : {T : Type 0} → PlainState T → ℕ → ℕ → Type 0
balanced (MapFrom f) taken put = put ≡ taken
balanced (FilterFrom f n) taken put = n < UNBOUNDED → taken ≡ put + n
balanced (TakeFrom n left) taken put = (put ≡ taken) × (put + left ≡ n)
balanced (ScanFrom f a) taken put = put ≡ taken + 1
balanced (BufferFrom n xs) taken put = (taken ≡ put * n + length xs) × (length xs < n)
balanced (DistinctFrom f ks n) taken put = n < UNBOUNDED → taken ≡ put + n

-- an item leaves the counts balanced, unless an ending came out; an ending brings one
abbrev pub Counts : {T : Type 0} → PlainState T → Signal T → List (Signal T) → PlainState T → Type 0
Counts old (Next x) out new = has_ending out ≡ false → (taken put : ℕ) → balanced old taken put → balanced new (taken + 1) (put + length out)
Counts old Complete out new = has_ending out ≡ true
Counts old (Error c) out new = has_ending out ≡ true

-- whether nothing more of the input matters: a `take` has let all its items through
abbrev pub is_over : {T : Type 0} → PlainState T → Bool
is_over (TakeFrom n left) = nat_eq left 0
is_over s = false

-- a `scan` keeps a copy of its last accumulation
abbrev pub scan_allocates : Allocates → Bool
scan_allocates a = a.folded || a.copied

-- whether taking a signal may allocate, where these of the caller's functions may: a `buffer` keeps a list, and a
-- `distinct` keeps keys
abbrev pub allocates_from : {T : Type 0} → Allocates → PlainState T → Bool
allocates_from a (MapFrom f) = a.mapped
allocates_from a (FilterFrom f n) = a.tested
allocates_from a (ScanFrom f x) = scan_allocates a
allocates_from a (BufferFrom n xs) = true
allocates_from a (DistinctFrom f ks n) = true
allocates_from a s = false

-- what is to be asked of the input in all, where so much is asked of the operator and so much came out of it
abbrev pub wanted_from : {T : Type 0} → PlainState T → ℕ → ℕ → ℕ
wanted_from (MapFrom f) asked sent = asked
wanted_from (FilterFrom f n) asked sent = min UNBOUNDED (asked + n)
wanted_from (TakeFrom n left) asked sent = min asked n
wanted_from (ScanFrom f a) asked sent = asked - 1
wanted_from (BufferFrom n xs) asked sent = min UNBOUNDED (asked * n)
wanted_from (DistinctFrom f ks n) asked sent = min UNBOUNDED (asked + n)

-- ---- in a chain: an answer that can still go back

-- a list that begins with x, without its last element
abbrev pub without_last_from : {A : Type 0} → A → List A → List A
without_last_from x [] = []
without_last_from x (y ∷ ys) = x ∷ without_last_from y ys

-- a list without its last element
abbrev pub without_last : {A : Type 0} → List A → List A
without_last [] = []
without_last (x ∷ xs) = without_last_from x xs

-- the last element of a list that begins with x
abbrev pub last_from : {A : Type 0} → A → List A → A
last_from x [] = x
last_from x (y ∷ ys) = last_from y ys

-- the last element, if there is one
abbrev pub last_of : {A : Type 0} → List A → Option A
last_of [] = None
last_of (x ∷ xs) = Some (last_from x xs)

-- the operator once its answer was taken
abbrev pub committed : {T : Type 0} → PlainState T → Pending T → PlainState T
committed (TakeFrom n left) Forwarded = TakeFrom n (left - 1)
committed (ScanFrom f a) (Accumulated x b) = ScanFrom f b
committed (BufferFrom n xs) Gathered = BufferFrom n (if nat_le n (length xs) then [] else xs)
committed s h = s

-- the operator once its answer was refused: as it was before
abbrev pub rolled_back : {T : Type 0} → PlainState T → Pending T → PlainState T
rolled_back (BufferFrom n xs) Gathered = BufferFrom n (without_last xs)
rolled_back (DistinctFrom f ks n) Forwarded = DistinctFrom f (without_last ks) n
rolled_back s h = s

-- the item that came in, where this item, if any, came out
abbrev pub taken_back : {T : Type 0} → PlainState T → Pending T → Option T → Option T
taken_back s Nothing y = None
taken_back s (Kept x) y = Some x
taken_back s Forwarded y = y
taken_back s (Accumulated x b) y = Some x
taken_back (BufferFrom n xs) Gathered y = last_of xs
taken_back s Gathered y = None

-- a signal went in, and out came out of the old state, which left the new one, with its ending where that is over
abbrev pub Reacts : {T : Type 0} → Meaning T → PlainState T → Signal T → List (Signal T) → PlainState T → Type 0
Reacts m old s out new = Moves (plain_from m) old s out new × EndsLast out × (is_over new ≡ true → has_ending out ≡ true) × (new ≡ after_signal m old s)

-- what came of a signal: it went in; or it came back for want of memory, and nothing has changed
abbrev pub IsReaction : {T A : Type 0} → Meaning T → Allocates → PlainState T → Signal T → Result A (Signal T) → List (Signal T) → PlainState T → Type 0
IsReaction m a old s (Ok _) out new = Reacts m old s out new
IsReaction m a old s (Err back) out new = (back ≡ s) × (new ≡ old) × (out ≡ []) × (allocates_from a old ≡ false → ⊥)
