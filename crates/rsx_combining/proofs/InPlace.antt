-- Rows that are put into the place of the items that give them.
use Rattle.std.proofs.Common.{◌≡◌, ℕ, zero, suc, ◌+◌, ◌<◌, ◌≤◌, List, [], ◌∷◌, ◌++◌, length, map, take, drop, slice_index_or, slice_set, Some, refl, ap, sym, ◌∙◌, arith}
use Rattle.std.proofs.lemmas.List.{length-set, append-nil, take_all, drop_all}
use Rattle.std.proofs.lemmas.List.Edits.{map_over_more}
use Rattle.rsx_combining.specs.LatestRows.{last_item}

-- ---- one place of a list

pub set_twice : {A : Type 0} (xs : List A) (i : ℕ) (x y : A) → slice_set (slice_set xs i x) i y ≡ slice_set xs i y
set_twice [] i x y = refl
set_twice (z ∷ xs) zero x y = refl
set_twice (z ∷ xs) (suc i) x y = ap (λ l. z ∷ l) (set_twice xs i x y)

pub read_back : {A : Type 0} (xs : List A) (i : ℕ) (b d : A) → i < length xs → b ≡ slice_index_or (slice_set xs i b) i d
read_back [] i b d lt = absurd (omega arith)
read_back (x ∷ xs) zero b d lt = refl
read_back (x ∷ xs) (suc i) b d lt = read_back xs i b d (omega arith)

any_default : {A : Type 0} (xs : List A) (i : ℕ) (c d : A) → i < length xs → slice_index_or xs i c ≡ slice_index_or xs i d
any_default [] i c d lt = absurd (omega arith)
any_default (x ∷ xs) zero c d lt = refl
any_default (x ∷ xs) (suc i) c d lt = any_default xs i c d (omega arith)

last_at : {A : Type 0} (xs : List A) (k : ℕ) (x d : A) → suc k ≡ length xs → slice_index_or xs k d ≡ x → last_item xs ≡ Some x
last_at [] k x d l e = absurd (omega (arith, l))
last_at (z ∷ []) zero x d l e = ap (λ w. Some w) e
last_at (z ∷ []) (suc k) x d l e = absurd (omega (arith, l))
last_at (z ∷ w ∷ xs) zero x d l e = absurd (omega (arith, l))
last_at (z ∷ w ∷ xs) (suc k) x d l e = last_at (w ∷ xs) k x d (omega (arith, l)) e

-- an item whose turn has not come is as it was
not_yet : {A : Type 0} (f : A → A) (xs : List A) (i : ℕ) (d : A) → i < length xs → slice_index_or (map f (take i xs) ++ drop i xs) i d ≡ slice_index_or xs i d
not_yet f [] i d lt = absurd (omega arith)
not_yet f (x ∷ xs) zero d lt = refl
not_yet f (x ∷ xs) (suc i) d lt = not_yet f xs i d (omega arith)

-- ---- the loop

-- the items in front of this place are rows, and the latest items have the last of them at place `at`
pub record IsRowLoop {T : Type 0} (row : List T → T) (latest : List T) (at : ℕ) (before : List T) (place : ℕ) (now items : List T) : Type 0 where
  pub fits : length now ≡ length latest
  pub same : (d : T) → slice_set now at d ≡ slice_set latest at d
  pub rows : items ≡ map (λ x. row (slice_set latest at x)) (take place before) ++ drop place before
  pub last : (k : ℕ) → suc k ≡ place → (d : T) → slice_index_or now at d ≡ slice_index_or before k d

pub no_rows : {T : Type 0} (row : List T → T) (latest : List T) (at : ℕ) (before : List T) → IsRowLoop row latest at before 0 latest before
no_rows row latest at before = record { fits = refl; same = λ d. refl; rows = refl; last = λ k e d. absurd (omega (arith, e)) }

pub one_row : {T : Type 0} (row : List T → T) (latest : List T) (at : ℕ) (before : List T) (place : ℕ) (now items : List T) (b c d y : T) → IsRowLoop row latest at before place now items → at < length latest → place < length before →
    b ≡ slice_index_or items place b → c ≡ b → y ≡ row (slice_set now at c) →
    IsRowLoop row latest at before (place + 1) (slice_set now at c) (slice_set (slice_set items place d) place y)
one_row {T} row latest at before place now items b c d y h there within was swapped made =
    let f : T → T = λ x. row (slice_set latest at x) in
    let fits = h.fits in
    let is : y ≡ f b = made ∙ ap row (h.same c) ∙ ap f swapped in
    let within_now : at < length now = omega (arith, fits, there) in
    let item : b ≡ slice_index_or before place b = was ∙ ap (λ l. slice_index_or l place b) h.rows ∙ not_yet f before place b within in
    record {
      fits = length-set now at c ∙ fits;
      same = λ z. set_twice now at c z ∙ h.same z;
      rows = set_twice items place d y ∙ ap (slice_set items place) is ∙ map_over_more f before items place b within h.rows was;
      last = λ k e z. sym (read_back now at c z within_now) ∙ swapped ∙ item ∙ any_default before place b z within ∙ ap (λ j. slice_index_or before j z) (same_place k e);
    }
  where
    same_place : (k : ℕ) → suc k ≡ place + 1 → place ≡ k
    same_place k e = omega (arith, e)

pub all_rows : {T : Type 0} (row : List T → T) (latest : List T) (at : ℕ) (before : List T) (place : ℕ) (now items : List T) → IsRowLoop row latest at before place now items → length before ≤ place → items ≡ map (λ x. row (slice_set latest at x)) before
all_rows {T} row latest at before place now items h all =
    let f : T → T = λ x. row (slice_set latest at x) in
    h.rows ∙ ap (λ l. map f l ++ drop place before) (take_all place before all) ∙ ap (λ l. map f before ++ l) (drop_all place before all) ∙ append-nil (map f before)

pub last_of_all : {T : Type 0} (row : List T → T) (latest : List T) (at : ℕ) (before : List T) (place : ℕ) (now items : List T) (r : T) → IsRowLoop row latest at before place now items → place ≡ length before → 0 < length before → r ≡ slice_index_or now at r → last_item before ≡ Some r
last_of_all row latest at [] place now items r h all some was = absurd (omega (arith, some))
last_of_all row latest at (x ∷ xs) place now items r h all some was = last_at (x ∷ xs) (length xs) r r refl (sym (h.last (length xs) (sym all) r) ∙ sym was)
