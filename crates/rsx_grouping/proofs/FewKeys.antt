-- A key that is looked for among a few, one by one.
use Rattle.std.proofs.Common.{◌≡◌, ℕ, suc, Bool, true, false, nat_eq, nat_lt, List, [], ◌∷◌, length, slice_get, Option, Some, None, IfSome, refl, ap, sym, ◌∙◌, arith, subst}
use Rattle.std.specs.Prelude.{is_some, cond}
use Rattle.std.specs.List.{position, position_or_len}
use Rattle.std.specs.Set.{is_member}
use Rattle.std.proofs.lemmas.Bool.{eqb-true}
use Rattle.std.proofs.lemmas.Bool.Decides.{nat_tests}

-- it was found where it stands, and it was found where it is one of them
abbrev pub IsFound : List ℕ → ℕ → Option ℕ → Type 0
IsFound ks k o = IfSome o (λ i. slice_get ks i ≡ Some k) × (is_some o ≡ is_member nat_eq ks k)

found_behind : (ks : List ℕ) (j k n : ℕ) (within : Bool) → nat_eq k j ≡ false → IsFound ks k (cond within (Some n) None) → IsFound (j ∷ ks) k (cond within (Some (suc n)) None)
found_behind ks j k n true e h = (h.0, rw e h.1)
found_behind ks j k n false e h = (tt, rw e h.1)

lt_same : (a b c d : ℕ) → a ≡ suc b → c ≡ suc d → nat_lt b d ≡ nat_lt a c
lt_same a b c d p q = grind (arith, nat_tests, p, q)

pub is_found : (ks : List ℕ) (k : ℕ) → IsFound ks k (position (nat_eq k) ks)
is_found [] k = (tt, refl)
is_found (j ∷ ks) k = by_test (nat_eq k j) refl (is_found ks k)
  where
    by_test : (t : Bool) → nat_eq k j ≡ t → IsFound ks k (position (nat_eq k) ks) → IsFound (j ∷ ks) k (position (nat_eq k) (j ∷ ks))
    by_test true e h =
        let m = position_or_len (nat_eq k) (j ∷ ks) in
        let here : m ≡ 0 = rw e refl in
        let long : length (j ∷ ks) ≡ suc (length ks) = omega arith in
        let within : true ≡ nat_lt 0 (length (j ∷ ks)) = grind (arith, nat_tests, long) in
        let place : Some 0 ≡ position (nat_eq k) (j ∷ ks) = ap (λ b. cond b (Some 0) None) within ∙ ap (λ i. cond (nat_lt i (length (j ∷ ks))) (Some i) None) (sym here) in
        subst (IsFound (j ∷ ks) k) place (ap Some (sym (eqb-true k j e)), rw e refl)
    by_test false e h =
        let n = position_or_len (nat_eq k) ks in
        let m = position_or_len (nat_eq k) (j ∷ ks) in
        let more : m ≡ suc n = rw e (omega arith) in
        let long : length (j ∷ ks) ≡ suc (length ks) = omega arith in
        let within : nat_lt n (length ks) ≡ nat_lt m (length (j ∷ ks)) = lt_same m n (length (j ∷ ks)) (length ks) more long in
        let place : cond (nat_lt n (length ks)) (Some (suc n)) None ≡ position (nat_eq k) (j ∷ ks) = ap (λ b. cond b (Some (suc n)) None) within ∙ ap (λ i. cond (nat_lt m (length (j ∷ ks))) (Some i) None) (sym more) in
        subst (IsFound (j ∷ ks) k) place (found_behind ks j k n (nat_lt n (length ks)) e h)
