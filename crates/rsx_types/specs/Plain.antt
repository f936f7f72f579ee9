-- The plain operators, as functions of a whole stream value.
use Rattle.std.specs.Prelude.{ℕ, zero, suc, ◌+◌, ℤ, pos, ◌+ℤ◌, Bool, nat_eq, nat_le, if◌then◌else◌, List, [], ◌∷◌, ◌++◌, length, map, Result, Ok, Err}
use Rattle.std.specs.List.{range_with_len}
use Rattle.std.specs.Set.{is_member}
use Rattle.rsx_types.specs.declared.signal.Ending.{Ending}
use Rattle.rsx_types.specs.declared.signal.Ending.TheVariants.{Open, Done, Failed}
use Rattle.rsx_types.specs.Stream.{Stream, ended_by, item_then, answer_then, kept_then, cut_by}
use Rattle.rsx_types.specs.Meaning.{Meaning}
use Rattle.rsx_types.specs.declared.stage.Stage.{Stage}
use Rattle.rsx_types.specs.declared.stage.Stage.TheVariants.{Map, Filter, Take, Scan, Buffer, Distinct}

-- the answers in order, up to the first fault
abbrev pub mapped_items : {T : Type 0} → (T → Result T ℕ) → List T → Ending → Stream T
mapped_items f [] e = ended_by e
mapped_items f (x ∷ xs) e = answer_then (f x) (mapped_items f xs e)

-- the items whose test is true, up to the first fault
abbrev pub filtered_items : {T : Type 0} → (T → Result Bool ℕ) → List T → Ending → Stream T
filtered_items p [] e = ended_by e
filtered_items p (x ∷ xs) e = kept_then x (p x) (filtered_items p xs e)

-- the first n items and the completion; where the items end before, their ending
abbrev pub taken_items : {T : Type 0} → ℕ → List T → Ending → Stream T
taken_items zero xs e = ended_by Done
taken_items (suc n) [] e = ended_by e
taken_items (suc n) (x ∷ xs) e = item_then x (taken_items n xs e)

-- an accumulation, and then what comes after it; a fault cuts there
abbrev pub accumulated_then : {T : Type 0} → Result T ℕ → (T → Stream T) → Stream T
accumulated_then (Ok b) after = item_then b (after b)
accumulated_then (Err c) after = cut_by c

-- the accumulations after `a`, up to the first fault
abbrev pub scanned_items : {T : Type 0} → (T → T → Result T ℕ) → T → List T → Ending → Stream T
scanned_items f a [] e = ended_by e
scanned_items f a (x ∷ xs) e = accumulated_then (f a x) (λ b. scanned_items f b xs e)

-- a list that was started comes out where the items are complete
abbrev pub last_list : {T : Type 0} → (List T → T) → List T → Ending → Stream T
last_list list [] e = ended_by e
last_list list (x ∷ xs) Done = item_then (list (x ∷ xs)) (ended_by Done)
last_list list (x ∷ xs) Open = ended_by Open
last_list list (x ∷ xs) (Failed c) = ended_by (Failed c)

-- the items in lists of n, where a list is started by these
abbrev pub buffered_items : {T : Type 0} → (List T → T) → ℕ → List T → List T → Ending → Stream T
buffered_items list n started [] e = last_list list started e
buffered_items list n started (x ∷ xs) e =
    if nat_le n (length started + 1) then item_then (list (started ++ x ∷ [])) (buffered_items list n [] xs e)
    else buffered_items list n (started ++ x ∷ []) xs e

-- an item whose key wasn't seen, and then what comes where its key was seen too; a fault cuts there
abbrev pub new_key_then : {T : Type 0} → T → Result ℕ ℕ → List ℕ → (List ℕ → Stream T) → Stream T
new_key_then x (Ok k) seen after = if is_member nat_eq seen k then after seen else item_then x (after (seen ++ k ∷ []))
new_key_then x (Err c) seen after = cut_by c

-- the first item of each key, where these keys were seen, up to the first fault
abbrev pub distinct_items : {T : Type 0} → (T → Result ℕ ℕ) → List ℕ → List T → Ending → Stream T
distinct_items key seen [] e = ended_by e
distinct_items key seen (x ∷ xs) e = new_key_then x (key x) seen (λ known. distinct_items key known xs e)

-- one plain operator
abbrev pub plain : {T : Type 0} → Meaning T → Stage T → Stream T → Stream T
plain m (Map f) v = mapped_items (m.mapped f) v.items v.ending
plain m (Filter f) v = filtered_items (m.tested f) v.items v.ending
plain m (Take n) v = taken_items n v.items v.ending
plain m (Scan f s) v = item_then s (scanned_items (m.folded f) s v.items v.ending)
plain m (Buffer n) v = buffered_items m.list_of n [] v.items v.ending
plain m (Distinct f) v = distinct_items (m.keyed f) [] v.items v.ending

-- plain operators one behind another, the first one innermost
abbrev pub chained : {T : Type 0} → Meaning T → List (Stage T) → Stream T → Stream T
chained m [] v = v
chained m (g ∷ gs) v = chained m gs (plain m g v)

-- a list of items, and the completion
abbrev pub listed : {T : Type 0} → List T → Stream T
listed xs = record { items = xs; ending = Done }

-- a, a+1, .. n of them
abbrev pub range_items : {T : Type 0} → Meaning T → ℤ → ℕ → List T
range_items m a n = map (λ k. m.number (a +ℤ pos k)) (range_with_len 0 n)
