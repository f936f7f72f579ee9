-- The keys of lanes, in the order in which each came first.
use Rattle.std.proofs.Common.{◌≡◌, ℕ, ◌+◌, Bool, true, false, nat_eq, List, [], ◌∷◌, ◌++◌, refl, arith}
use Rattle.std.specs.Set.{is_member}
use Rattle.std.proofs.lemmas.Bool.Decides.{nat_tests}
use Rattle.std.proofs.lemmas.Bool.{eq-eqb, eqb-true, or_parts, or_right}
use Rattle.rsx_grouping.specs.Keys.{AreDistinct}

-- ---- keys

-- a key that was seen is another than one that wasn't
pub other_key : (ks : List ℕ) (k j : ℕ) → is_member nat_eq ks k ≡ true → is_member nat_eq ks j ≡ false → nat_eq k j ≡ false
other_key ks k j a b = by_test (nat_eq k j) refl
  where
    by_test : (t : Bool) → nat_eq k j ≡ t → nat_eq k j ≡ false
    by_test false e = e
    by_test true e = let same : k ≡ j = eqb-true k j e in let both : is_member nat_eq ks j ≡ true = rw same at a in cc

pub stays_seen : (ks more : List ℕ) (k : ℕ) → is_member nat_eq ks k ≡ true → is_member nat_eq (ks ++ more) k ≡ true
stays_seen [] more k h = cc
stays_seen (j ∷ ks) more k h = by_test (nat_eq k j) refl (stays_seen ks more k)
  where
    by_test : (t : Bool) → nat_eq k j ≡ t → (is_member nat_eq ks k ≡ true → is_member nat_eq (ks ++ more) k ≡ true) → is_member nat_eq ((j ∷ ks) ++ more) k ≡ true
    by_test true e rest = rw e refl
    by_test false e rest = rw e (rest (rw e at h))

pub last_seen : (ks : List ℕ) (k : ℕ) → is_member nat_eq (ks ++ k ∷ []) k ≡ true
last_seen [] k = rw (eq-eqb k k refl) refl
last_seen (j ∷ ks) k = or_right (nat_eq k j) (is_member nat_eq (ks ++ k ∷ []) k) (last_seen ks k)

not_same : (j k : ℕ) → nat_eq k j ≡ false → nat_eq j k ≡ false
not_same j k h = grind (arith, nat_tests)

not_there : (ks : List ℕ) (j k : ℕ) → is_member nat_eq ks j ≡ false → nat_eq k j ≡ false → is_member nat_eq (ks ++ k ∷ []) j ≡ false
not_there [] j k h n = rw (not_same j k n) refl
not_there (i ∷ ks) j k h n = rw (or_parts (nat_eq j i) (is_member nat_eq ks j) h).0 (not_there ks j k (or_parts (nat_eq j i) (is_member nat_eq ks j) h).1 n)

-- a key that wasn't seen stands last
pub distinct_more : (ks : List ℕ) (k : ℕ) → AreDistinct ks → is_member nat_eq ks k ≡ false → AreDistinct (ks ++ k ∷ [])
distinct_more [] k d out = (refl, tt)
distinct_more (j ∷ ks) k d out = (not_there ks j k d.0 (or_parts (nat_eq k j) (is_member nat_eq ks k) out).0, distinct_more ks k d.1 (or_parts (nat_eq k j) (is_member nat_eq ks k) out).1)
