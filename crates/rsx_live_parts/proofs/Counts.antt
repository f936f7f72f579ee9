-- How many pieces and links there are at a cut.
use Rattle.std.proofs.Common.{◌≡◌, Bool, true, false, if◌then◌else◌, Result, Ok, Err, sym, ◌∙◌, ℕ, ◌+◌, ◌<◌, ◌≤◌, ◌^◌, List, [], ◌∷◌, ◌++◌, length, slice_set, ap, arith, length-append, nat_eq}
use Rattle.std.proofs.lemmas.Bool.Decides.{nat_tests}
use Rattle.std.proofs.lemmas.List.{length-set}
use Rattle.std.specs.Prelude.{IfOk, IsErr, OnErr, OnOk}

pub one_more : {A : Type 0} (ps new : List A) (k : ℕ) (x y : A) → new ≡ slice_set ps k x ++ y ∷ [] → length new ≡ length ps + 1
one_more ps new k x y e =
    let all : length new ≡ length (slice_set ps k x ++ y ∷ []) = ap length e in
    let both = length-append (slice_set ps k x) (y ∷ []) in
    let set : length (slice_set ps k x) ≡ length ps = length-set ps k x in
    omega (arith, all, both, set)

pub more_than : (m n : ℕ) → n ≡ m + 1 → m ≤ n
more_than m n e = omega arith

pub as_many : (m n : ℕ) → n ≡ m → m ≤ n
as_many m n e = omega arith

pub is_number : (hub links n : ℕ) → (links < 2 ^ 32) × (hub ≡ links) → 2 ^ 32 ≤ n → hub < n
is_number hub links n h most = let less = h.0 in let is = h.1 in omega (arith, less, is, most)

pub still_below : (k m n : ℕ) → k < m → m ≤ n → k < n
still_below k m n less more = omega arith

-- one more of both, where a piece was cut off
pub beside_cut : (places pieces now is : ℕ) (cut : Bool) → places ≡ pieces → is ≡ (if cut then pieces + 1 else pieces) → cut ≡ true → now ≡ places + 1 → now ≡ is
beside_cut places pieces now is cut e more was one =
    let all : is ≡ pieces + 1 = more ∙ ap (λ b. if b then pieces + 1 else pieces) was in
    omega (arith, e, all, one)

pub beside_whole : (places pieces is : ℕ) (cut : Bool) → places ≡ pieces → is ≡ (if cut then pieces + 1 else pieces) → cut ≡ false → places ≡ is
beside_whole places pieces is cut e more was = e ∙ sym (more ∙ ap (λ b. if b then pieces + 1 else pieces) was)

pub on_none : {A E : Type 0} (r : Result A E) (P : Type 0) → IsErr r → OnOk r P
on_none (Ok v) P h = let e : false ≡ true = h in cc
on_none (Err e) P h = tt

pub if_none : {A E : Type 0} (r : Result A E) (P : A → Type 0) → IsErr r → IfOk r P
if_none (Ok v) P h = let e : false ≡ true = h in cc
if_none (Err e) P h = tt

pub on_err : {A E : Type 0} (r : Result A E) (P : Type 0) → P → OnErr r P
on_err (Ok v) P h = tt
on_err (Err e) P h = h

pub on_err_also : {A E : Type 0} (r : Result A E) (P Q : Type 0) → P → OnErr r Q → OnErr r (P × Q)
on_err_also (Ok v) P Q p q = tt
on_err_also (Err e) P Q p q = (p, q)

pub some_left : {A : Type 0} (es : List A) (n : ℕ) → n ≡ length es → nat_eq n 0 ≡ false → 0 < length es
some_left es n size e = grind (arith, nat_tests, size, e)
