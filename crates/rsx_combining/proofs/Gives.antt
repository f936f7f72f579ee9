-- The row that an item gives.
use Rattle.std.proofs.Common.{◌≡◌, ℕ, zero, suc, ◌<◌, ◌++◌, ◌⊎◌, inl, inr, nat_eq, not, Bool, true, false, nat_lt, List, [], ◌∷◌, length, map, get_or, slice_get, slice_index_or, slice_set, append_assoc, append-nil, Option, Some, None, option_map, Result, Ok, Err, OnOk, refl, ap, sym, ◌∙◌, arith}
use Rattle.std.proofs.lemmas.Bool.{and_parts}
use Rattle.std.proofs.lemmas.Bool.Decides.{nat_tests}
use Rattle.std.proofs.lemmas.List.{length-map}
use Rattle.std.proofs.lemmas.Option.{same_Some}
use Rattle.rsx_sources.specs.Prelude.{Signal, Next, Complete, Error}
use Rattle.rsx_values.specs.Latest.{all_latest, is_itemless}
use Rattle.rsx_combining.specs.Latest.{is_there, all_there, gives_row, row_is_next, row_given}

-- ---- the first row

moved_behind : {A : Type 0} (so_far : List A) (x : A) (o : Option (List A)) → option_map (λ xs. (so_far ++ x ∷ []) ++ xs) o ≡ option_map (λ xs. so_far ++ xs) (option_map (λ ys. x ∷ ys) o)
moved_behind so_far x None = refl
moved_behind so_far x (Some xs) = ap (λ l. Some l) (append_assoc so_far (x ∷ []) xs)

-- an item in front of the others
pub moved_more : {A : Type 0} (so_far more : List A) (x : A) (os : List (Option A)) (r : Option (List A)) → more ≡ so_far ++ x ∷ [] → r ≡ option_map (λ xs. more ++ xs) (all_latest os) → r ≡ option_map (λ xs. so_far ++ xs) (all_latest (Some x ∷ os))
moved_more so_far more x os r m is = is ∙ ap (λ l. option_map (λ xs. l ++ xs) (all_latest os)) m ∙ moved_behind so_far x (all_latest os)

pub there_with : {A : Type 0} (os : List (Option A)) (i : ℕ) (x : A) → gives_row os i ≡ true → all_there (slice_set os i (Some x)) ≡ true
there_with [] i x e = cc
there_with (o ∷ os) zero x e = e
there_with (o ∷ os) (suc i) x e = let p = and_parts (is_there o) (gives_row os i) e in rw p.0 (there_with os i x p.1)

pub gives_there : {A : Type 0} (os : List (Option A)) (i : ℕ) → gives_row os i ≡ true → i < length os
gives_there [] i e = cc
gives_there (o ∷ os) zero e = omega arith
gives_there (o ∷ os) (suc i) e = let lt = gives_there os i (and_parts (is_there o) (gives_row os i) e).1 in omega (arith, lt)

-- what was put at place i is read there
pub read_set : {A : Type 0} (xs ls : List A) (i : ℕ) (y d : A) → i < length xs → ls ≡ slice_set xs i y → d ≡ slice_index_or ls i d → d ≡ y
read_set {A} xs ls i y d lt l is = is ∙ ap (λ z. slice_index_or z i d) l ∙ read xs i lt
  where
    read : (zs : List A) (k : ℕ) → k < length zs → slice_index_or (slice_set zs k y) k d ≡ y
    read [] k lt = absurd (omega arith)
    read (z ∷ zs) zero lt = refl
    read (z ∷ zs) (suc k) lt = read zs k (omega arith)

-- an item that is put back where it was
pub set_back : {A : Type 0} (xs ls : List A) (i : ℕ) (y d e : A) → ls ≡ slice_set xs i y → e ≡ get_or xs i e → d ≡ e → slice_set ls i d ≡ xs
set_back xs ls i y d e l is same = ap (λ z. slice_set z i d) l ∙ ap (slice_set (slice_set xs i y) i) same ∙ back xs i y e is
  where
    back : {A : Type 0} (xs : List A) (i : ℕ) (y e : A) → e ≡ get_or xs i e → slice_set (slice_set xs i y) i e ≡ xs
    back [] i y e is = refl
    back (x ∷ xs) zero y e is = ap (λ z. z ∷ xs) is
    back (x ∷ xs) (suc i) y e is = ap (λ l. x ∷ l) (back xs i y e is)

-- ---- once every input has had an item

not_below : (i : ℕ) → false ≡ nat_lt i 0
not_below i = grind (arith, nat_tests)

first_below : (n : ℕ) → true ≡ nat_lt 0 (suc n)
first_below n = grind (arith, nat_tests)

both_more : (i n : ℕ) → nat_lt i n ≡ nat_lt (suc i) (suc n)
both_more i n = grind (arith, nat_tests)

pub there_all : {A : Type 0} (xs : List A) → all_there (map Some xs) ≡ true
there_all [] = refl
there_all (x ∷ xs) = there_all xs

pub gives_all : {A : Type 0} (xs : List A) (i : ℕ) → gives_row (map Some xs) i ≡ nat_lt i (length xs)
gives_all [] i = not_below i
gives_all (x ∷ xs) zero = there_all xs ∙ first_below (length xs)
gives_all (x ∷ xs) (suc i) = gives_all xs i ∙ both_more i (length xs)

pub item_of_all : {A : Type 0} (xs : List A) (i : ℕ) → not (is_itemless (slice_get (map Some xs) i)) ≡ nat_lt i (length xs)
item_of_all [] i = not_below i
item_of_all (x ∷ xs) zero = first_below (length xs)
item_of_all (x ∷ xs) (suc i) = item_of_all xs i ∙ both_more i (length xs)

latest_of_all : {A : Type 0} (xs : List A) → all_latest (map Some xs) ≡ Some xs
latest_of_all [] = refl
latest_of_all (x ∷ xs) = ap (option_map (λ ys. x ∷ ys)) (latest_of_all xs)

pub set_all : {A : Type 0} (xs : List A) (i : ℕ) (x : A) → map Some (slice_set xs i x) ≡ slice_set (map Some xs) i (Some x)
set_all [] i x = refl
set_all (y ∷ xs) zero x = refl
set_all (y ∷ xs) (suc i) x = ap (λ l. Some y ∷ l) (set_all xs i x)

-- the latest items are these, once each input has had one
all_are : {A : Type 0} (os : List (Option A)) (xs : List A) → Some xs ≡ all_latest os → map Some xs ≡ os
all_are [] xs e = ap (map Some) (same_Some xs [] e)
all_are (None ∷ os) xs e = cc
all_are {A} (Some x ∷ os) xs e = of (all_latest os) refl e (λ ys h. all_are os ys h)
  where
    of : (o : Option (List A)) → all_latest os ≡ o → Some xs ≡ option_map (λ ys. x ∷ ys) o → ((ys : List A) → Some ys ≡ all_latest os → map Some ys ≡ os) → map Some xs ≡ Some x ∷ os
    of None h e others = cc
    of (Some ys) h e others = ap (map Some) (same_Some xs (x ∷ ys) e) ∙ ap (λ l. Some x ∷ l) (others ys (sym h))

-- ---- the two lists in which the latest items stand, of which one is empty

abbrev pub seen : {A : Type 0} → List (Option A) → List A → List (Option A)
seen before all = before ++ map Some all

pub none_before : {A : Type 0} (before : List (Option A)) (all : List A) (n : ℕ) → before ≡ [] ⊎ all ≡ [] → n ≡ length all → nat_eq n 0 ≡ false → before ≡ []
none_before before all n (inl e) l some = e
none_before before all n (inr e) l some = let none : nat_eq n 0 ≡ true = ap (λ k. nat_eq k 0) (l ∙ ap length e) in cc

pub all_seen : {A : Type 0} (before now : List (Option A)) (all : List A) (n : ℕ) → seen before all ≡ now → before ≡ [] ⊎ all ≡ [] → n ≡ length all → nat_eq n 0 ≡ false → map Some all ≡ now
all_seen before now all n is either l some = ap (λ b. b ++ map Some all) (sym (none_before before all n either l some)) ∙ is

nothing : {A : Type 0} (all : List A) (n : ℕ) → n ≡ length all → nat_eq n 0 ≡ true → all ≡ []
nothing [] n l none = refl
nothing (x ∷ all) n l none = absurd (zero_not n (length all) l none)
  where
    zero_not : (n k : ℕ) → n ≡ suc k → nat_eq n 0 ≡ true → ⊥
    zero_not n k l none = grind (arith, nat_tests)

-- the items stand side by side
pub all_had : {A : Type 0} (before now : List (Option A)) (all : List A) (n : ℕ) (b : Bool) → seen before all ≡ now → before ≡ [] ⊎ all ≡ [] → n ≡ length all → b ≡ nat_eq n 0 → not b ≡ true → all_there now ≡ true
all_had before now all n true is one len e full = cc
all_had before now all n false is one len e full = ap all_there (sym (all_seen before now all n is one len (sym e))) ∙ there_all all

pub before_seen : {A : Type 0} (before now : List (Option A)) (all : List A) (n : ℕ) → seen before all ≡ now → n ≡ length all → nat_eq n 0 ≡ true → before ≡ now
before_seen before now all n is l none = sym (append-nil before) ∙ ap (seen before) (sym (nothing all n l none)) ∙ is

pub first_seen : {A : Type 0} (before now : List (Option A)) (all : List A) (n : ℕ) → seen before all ≡ now → n ≡ length all → nat_eq n 0 ≡ true → (before ≡ now) × (all ≡ [])
first_seen before now all n is l none = (before_seen before now all n is l none, nothing all n l none)

-- a place is there, where its item gives a row
pub gives_within : {A : Type 0} (now : List (Option A)) (all : List A) (n i : ℕ) → map Some all ≡ now → n ≡ length all → gives_row now i ≡ true → i < n
gives_within now all n i is l gives = within (ap (nat_lt i) l ∙ sym (gives_all all i) ∙ ap (λ z. gives_row z i) is ∙ gives)
  where
    within : nat_lt i n ≡ true → i < n
    within t = grind (arith, nat_tests)

pub kept_within : {A : Type 0} (now : List (Option A)) (all : List A) (n i : ℕ) → map Some all ≡ now → n ≡ length all → i < length now → i < n
kept_within now all n i is l lt =
    let same = sym (ap length is) ∙ length-map all Some in
    omega (arith, same, l, lt)

-- else the items stand in the first list
pub stands_before : {A : Type 0} (before now : List (Option A)) (all : List A) (i : ℕ) → seen before all ≡ now → before ≡ [] ⊎ all ≡ [] → i < length now → gives_row now i ≡ false → (before ≡ now) × (all ≡ [])
stands_before before now all i is (inr e) lt none = (sym (append-nil before) ∙ ap (seen before) (sym e) ∙ is, e)
stands_before before now all i is (inl e) lt none =
    let same : map Some all ≡ now = ap (λ b. b ++ map Some all) (sym e) ∙ is in
    absurd (clash (length all) (sym (gives_all all i) ∙ ap (λ z. gives_row z i) same ∙ none) (rw (← length-map all Some) (rw same lt)))
  where
    clash : (n : ℕ) → nat_lt i n ≡ false → i < n → ⊥
    clash n f lt = grind (arith, nat_tests)

-- an item is put in
pub put_before : {A : Type 0} (before now : List (Option A)) (all : List A) (i : ℕ) (x : A) → (before ≡ now) × (all ≡ []) → seen (slice_set before i (Some x)) all ≡ slice_set now i (Some x)
put_before before now all i x p = ap (seen (slice_set before i (Some x))) p.1 ∙ append-nil (slice_set before i (Some x)) ∙ ap (λ z. slice_set z i (Some x)) p.0

pub set_seen : {A : Type 0} (before now : List (Option A)) (all : List A) (i : ℕ) (x d : A) → before ≡ [] → map Some all ≡ now → d ≡ x → seen before (slice_set all i d) ≡ slice_set now i (Some x)
set_seen before now all i x d none is same =
    ap (λ b. seen b (slice_set all i d)) none ∙ ap (λ z. map Some (slice_set all i z)) same ∙ set_all all i x ∙ ap (λ z. slice_set z i (Some x)) is

pub row_of_all : {T : Type 0} (row : List T → T) (now : List (Option T)) (all : List T) (i : ℕ) (x d y : T) → map Some all ≡ now → d ≡ x → y ≡ row (slice_set all i d) → Some y ≡ option_map row (all_latest (slice_set now i (Some x)))
row_of_all row now all i x d y is same made =
    ap (λ z. Some z) (made ∙ ap (λ z. row (slice_set all i z)) same)
    ∙ ap (option_map row) (sym (latest_of_all (slice_set all i x)) ∙ ap all_latest (set_all all i x ∙ ap (λ z. slice_set z i (Some x)) is))

pub both_ok : {X E P Q R : Type 0} (r : Result X E) → (P → Q → R) → OnOk r P → OnOk r Q → OnOk r R
both_ok (Ok x) f p q = f p q
both_ok (Err e) f p q = tt

-- all of them were moved to the second list
pub moved_seen : {A : Type 0} (before new now : List (Option A)) (moved : List A) (i : ℕ) (x : A) → before ≡ now → new ≡ [] → Some moved ≡ all_latest (slice_set before i (Some x)) → seen new moved ≡ slice_set now i (Some x)
moved_seen before new now moved i x same none is = ap (λ b. seen b moved) none ∙ all_are (slice_set before i (Some x)) moved is ∙ ap (λ z. slice_set z i (Some x)) same

-- ---- an item that gives no row

none_there : {A : Type 0} (os : List (Option A)) → all_there os ≡ false → all_latest os ≡ None
none_there [] e = cc
none_there (None ∷ os) e = refl
none_there (Some x ∷ os) e = ap (option_map (λ ys. x ∷ ys)) (none_there os e)

none_with : {A : Type 0} (os : List (Option A)) (i : ℕ) (x : A) → i < length os → gives_row os i ≡ false → all_latest (slice_set os i (Some x)) ≡ None
none_with [] i x lt e = absurd (omega arith)
none_with (o ∷ os) zero x lt e = ap (option_map (λ ys. x ∷ ys)) (none_there os e)
none_with (None ∷ os) (suc i) x lt e = refl
none_with (Some y ∷ os) (suc i) x lt e = ap (option_map (λ ys. y ∷ ys)) (none_with os i x (omega arith) e)

pub no_row_given : {T : Type 0} (row : List T → T) (latest : List (Option T)) (i : ℕ) (s : Option (Signal T)) → i < length latest → row_is_next s (gives_row latest i) ≡ false → None ≡ row_given row latest i s
no_row_given row latest i None lt e = refl
no_row_given row latest i (Some (Next x)) lt e = sym (ap (option_map row) (none_with latest i x lt e))
no_row_given row latest i (Some Complete) lt e = refl
no_row_given row latest i (Some (Error c)) lt e = refl
