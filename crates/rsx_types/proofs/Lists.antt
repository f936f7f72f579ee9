-- Lists: what stands first, at a place, and behind one.
use Rattle.std.proofs.Common.{◌≡◌, ℕ, zero, suc, ◌+◌, ◌<◌, List, [], ◌∷◌, ◌++◌, length, get_or, drop, Some, None, refl, sym, arith}
use Rattle.std.specs.List.{slice_get}
use Rattle.std.proofs.Math.ListN.{set}
use Rattle.std.proofs.lemmas.List.{drop_more}

pub same_head : {A : Type 0} (x y : A) (xs ys : List A) → x ∷ xs ≡ y ∷ ys → x ≡ y
same_head x y xs ys e = cc

pub same_tail : {A : Type 0} (x y : A) (xs ys : List A) → x ∷ xs ≡ y ∷ ys → xs ≡ ys
same_tail x y xs ys e = cc

pub nil_before : {A : Type 0} (xs ys : List A) → xs ++ ys ≡ [] → xs ≡ []
nil_before [] ys e = refl
nil_before (x ∷ xs) ys e = cc

pub nil_behind : {A : Type 0} (xs ys : List A) → xs ++ ys ≡ [] → ys ≡ []
nil_behind [] ys e = e
nil_behind (x ∷ xs) ys e = cc

pub nil_from_no_first : {A : Type 0} (xs : List A) → None ≡ slice_get xs 0 → xs ≡ []
nil_from_no_first [] e = refl
nil_from_no_first (x ∷ xs) e = cc

-- the element that a loop comes to stands in front of those behind it
pub drop_read : {A : Type 0} (xs : List A) (i : ℕ) (x : A) → i < length xs → x ≡ get_or xs i x → drop i xs ≡ x ∷ drop (i + 1) xs
drop_read xs i x lt e = let step : drop i xs ≡ get_or xs i x ∷ drop (i + 1) xs = drop_more xs i x lt in rw (← e) at step

pub slice_get_behind : {A : Type 0} (xs : List A) (x : A) (ys : List A) → slice_get (xs ++ x ∷ ys) (length xs) ≡ Some x
slice_get_behind [] x ys = refl
slice_get_behind (y ∷ xs) x ys = slice_get_behind xs x ys

pub slice_get-set_same : {A : Type 0} (xs : List A) (i : ℕ) (x : A) → i < length xs → slice_get (set xs i x) i ≡ Some x
slice_get-set_same [] i x lt = absurd (omega arith)
slice_get-set_same (y ∷ xs) zero x lt = refl
slice_get-set_same (y ∷ xs) (suc i) x lt = slice_get-set_same xs i x (omega arith)
