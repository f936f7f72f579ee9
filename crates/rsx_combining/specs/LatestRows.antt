-- Items of one input that go through a combineLatest one after the other, each of which gives a row.
use Rattle.std.specs.Prelude.{◌≡◌, ⊤, ℕ, zero, suc, ◌&&◌, Bool, false, nat_eq, nat_le, List, [], ◌∷◌, slice_set, Option, Some, None}
use Rattle.rsx_sources.specs.Prelude.{Next}
use Rattle.rsx_sources.specs.declared.machine.Front.TheVariants.{Item}
use Rattle.rsx_values.specs.Record.{room_of_last, added_to_last}
use Rattle.rsx_queued.specs.declared.input.QueuedInput.{QueuedInput}
use Rattle.rsx_queued.specs.Input.{input_passed}
use Rattle.rsx_queued.specs.Prelude.{is_empty}
use Rattle.rsx_combining.specs.Latest.{LatestState, latest_takes, latest_queued, gives_row, row_given}

-- ---- whether they go through

abbrev pub is_zero : Option ℕ → Bool
is_zero None = false
is_zero (Some k) = nat_eq k 0

-- whether so many items of input i go through: nothing waits there or in the out slot, each item gives a row, and so many
-- choices of input i are more of the last run
abbrev pub rows_through : {T : Type 0} → LatestState T → ℕ → ℕ → Bool
rows_through n i k = is_empty n.output && latest_takes n i Item && is_zero (latest_queued n i) && gives_row n.latest i && nat_le k (room_of_last n.choices i)

-- ---- what comes out

-- each of the second items is the row that one of the first gives at input i, one after the other
abbrev pub AreRows : {T : Type 0} → (List T → T) → List (Option T) → ℕ → List T → List T → Type 0
AreRows row latest i [] [] = ⊤
AreRows row latest i [] (y ∷ ys) = ⊥
AreRows row latest i (x ∷ xs) [] = ⊥
AreRows row latest i (x ∷ xs) (y ∷ ys) = (Some y ≡ row_given row latest i (Some (Next x))) × AreRows row (slice_set latest i (Some x)) i xs ys

abbrev pub last_item : {A : Type 0} → List A → Option A
last_item [] = None
last_item (x ∷ []) = Some x
last_item (x ∷ y ∷ xs) = last_item (y ∷ xs)

-- ---- what the node is behind them

-- the inputs, where so many items went through input i
abbrev pub passed_at : {T : Type 0} → List (QueuedInput T) → ℕ → ℕ → List (QueuedInput T)
passed_at [] i k = []
passed_at (q ∷ qs) zero k = input_passed q k ∷ qs
passed_at (q ∷ qs) (suc i) k = q ∷ passed_at qs i k

-- the node after so many items of input i gave a row each, of which x was the last
abbrev pub rows_counted : {T : Type 0} → LatestState T → ℕ → ℕ → T → LatestState T
rows_counted n i k x = record { inputs = passed_at n.inputs i k; latest = slice_set n.latest i (Some x); output = n.output; choices = added_to_last n.choices k }

-- the node after the item x of input i came in and was picked, and its row went out
abbrev pub after_row : {T : Type 0} → LatestState T → ℕ → T → LatestState T
after_row n i x = rows_counted n i 1 x

-- the same for these items, one after the other
abbrev pub after_rows : {T : Type 0} → LatestState T → ℕ → List T → LatestState T
after_rows n i [] = n
after_rows n i (x ∷ xs) = after_rows (after_row n i x) i xs
