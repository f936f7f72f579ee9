-- The rows of a loop over their places.
use Rattle.std.proofs.Common.{◌≡◌, ℕ, zero, suc, ◌+◌, ◌-◌, ◌<◌, ◌≤◌, min, List, [], ◌∷◌, ◌++◌, length, drop, get_or, slice_get, append_assoc, Some, refl, sym, ap, ◌∙◌, arith, add-one}
use Rattle.std.proofs.lemmas.List.{at_drop_more, at_drop_all}
use Rattle.std.proofs.lemmas.Option.{slice_get_past}
use Rattle.rsx_types.specs.Stream.{Stream}
use Rattle.rsx_values.specs.Zip.{items_of, shortest, heads, tails, rows}
use Rattle.rsx_values.specs.Rows.{at_each, some_first}

-- the shortest of a value and of others
pub shortest_more : {T : Type 0} (v : Stream T) (vs : List (Stream T)) → 0 < length vs → shortest (items_of (v ∷ vs)) ≡ min (length v.items) (shortest (items_of vs))
shortest_more v [] h = absurd (omega arith)
shortest_more v (w ∷ ws) h = refl

-- ---- one row

-- the row's items of the values from place i on
pub row_step : {T : Type 0} (vs : List (Stream T)) (i k : ℕ) (v : Stream T) → i < length vs → v ≡ get_or vs i v →
    at_each k (items_of (drop i vs)) ≡ some_first (slice_get v.items k) (at_each k (items_of (drop (i + 1) vs)))
row_step vs i k v within is = at_drop_more (λ l. at_each k (items_of l)) vs i v within ∙ ap (λ z. at_each k (items_of (z ∷ drop (i + 1) vs))) (sym is)

got : {A : Type 0} (xs : List A) (k : ℕ) (x : A) → k < length xs → x ≡ get_or xs k x → slice_get xs k ≡ Some x
got [] k x lt e = absurd (omega arith)
got (y ∷ xs) zero x lt e = ap (λ z. Some z) (sym e)
got (y ∷ xs) (suc k) x lt e = got xs k x (omega arith) e

-- such an item joins the row
pub row_pushed : {T : Type 0} (vs : List (Stream T)) (i k : ℕ) (v : Stream T) (x : T) (out all : List T) → i < length vs → v ≡ get_or vs i v → k < length v.items → x ≡ get_or v.items k x →
    out ++ at_each k (items_of (drop i vs)) ≡ all → (out ++ x ∷ []) ++ at_each k (items_of (drop (i + 1) vs)) ≡ all
row_pushed vs i k v x out all within is there at h =
    append_assoc out (x ∷ []) (at_each k (items_of (drop (i + 1) vs)))
    ∙ ap (λ l. out ++ l) (sym (row_step vs i k v within is ∙ ap (λ o. some_first o (at_each k (items_of (drop (i + 1) vs)))) (got v.items k x there at))) ∙ h

pub row_passed : {T : Type 0} (vs : List (Stream T)) (i k : ℕ) (v : Stream T) (out all : List T) → i < length vs → v ≡ get_or vs i v → length v.items ≤ k →
    out ++ at_each k (items_of (drop i vs)) ≡ all → out ++ at_each k (items_of (drop (i + 1) vs)) ≡ all
row_passed vs i k v out all within is none h =
    ap (λ l. out ++ l) (sym (row_step vs i k v within is ∙ ap (λ o. some_first o (at_each k (items_of (drop (i + 1) vs)))) (slice_get_past v.items k none))) ∙ h

pub row_over : {T : Type 0} (vs : List (Stream T)) (i k : ℕ) → length vs ≤ i → at_each k (items_of (drop i vs)) ≡ []
row_over vs i k le = at_drop_all (λ l. at_each k (items_of l)) vs i le

-- ---- all rows

-- each list without its first k items
abbrev pub dropped : {A : Type 0} → ℕ → List (List A) → List (List A)
dropped k [] = []
dropped k (xs ∷ ls) = drop k xs ∷ dropped k ls

pub dropped_none : {A : Type 0} (ls : List (List A)) → dropped 0 ls ≡ ls
dropped_none [] = refl
dropped_none (xs ∷ ls) = ap (λ l. xs ∷ l) (dropped_none ls)

head_at : {A : Type 0} (k : ℕ) (xs : List A) (ls : List (List A)) → heads (drop k xs ∷ ls) ≡ some_first (slice_get xs k) (heads ls)
head_at zero [] ls = refl
head_at (suc k) [] ls = refl
head_at zero (x ∷ xs) ls = refl
head_at (suc k) (x ∷ xs) ls = head_at k xs ls

heads_at : {A : Type 0} (k : ℕ) (ls : List (List A)) → heads (dropped k ls) ≡ at_each k ls
heads_at k [] = refl
heads_at k (xs ∷ ls) = head_at k xs (dropped k ls) ∙ ap (some_first (slice_get xs k)) (heads_at k ls)

tail_at : {A : Type 0} (k : ℕ) (xs : List A) (ls : List (List A)) → tails (drop k xs ∷ ls) ≡ drop (suc k) xs ∷ tails ls
tail_at zero [] ls = refl
tail_at (suc k) [] ls = refl
tail_at zero (x ∷ xs) ls = refl
tail_at (suc k) (x ∷ xs) ls = tail_at k xs ls

tails_at : {A : Type 0} (k : ℕ) (ls : List (List A)) → tails (dropped k ls) ≡ dropped (suc k) ls
tails_at k [] = refl
tails_at k (xs ∷ ls) = tail_at k xs (dropped k ls) ∙ ap (λ l. drop (suc k) xs ∷ l) (tails_at k ls)

rows_at : {A : Type 0} (row : List A → A) (n k : ℕ) (ls : List (List A)) → rows row (suc n) (dropped k ls) ≡ row (at_each k ls) ∷ rows row n (dropped (suc k) ls)
rows_at row n k ls = rw (heads_at k ls, tails_at k ls) refl

-- one row more is out
pub rows_step : {A : Type 0} (row : List A → A) (n k : ℕ) (ls : List (List A)) (out : List A) → k < n →
    (out ++ row (at_each k ls) ∷ []) ++ rows row (n - (k + 1)) (dropped (k + 1) ls) ≡ out ++ rows row (n - k) (dropped k ls)
rows_step row n k ls out lt =
    let left : n - k ≡ suc (n - (k + 1)) = omega arith in
    append_assoc out (row (at_each k ls) ∷ []) (rows row (n - (k + 1)) (dropped (k + 1) ls))
    ∙ ap (λ l. out ++ l) (ap (λ j. row (at_each k ls) ∷ rows row (n - (k + 1)) (dropped j ls)) (add-one k) ∙ sym (rows_at row (n - (k + 1)) k ls) ∙ ap (λ j. rows row j (dropped k ls)) (sym left))
