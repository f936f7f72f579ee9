-- Lemmas on lists.
use Rattle.std.proofs.Common.{◌≡◌, ◌⊎◌, inl, inr, ℕ, zero, suc, ◌<◌, List, [], ◌∷◌, ◌++◌, append_assoc, length, length-append, refl, ap, sym, ◌∙◌, arith, subst, Some, slice_get, slice_set}
use Rattle.std.proofs.lemmas.List.{length-set}
use Rattle.std.proofs.lemmas.Option.{slice_get_within}
use Rattle.rsx_serialized.specs.Ends.{Beside, BesideFew}

-- what stands in the list where one element was set
pub set_cases : {X : Type 0} (xs : List X) (i k : ℕ) (y z : X) → slice_get (slice_set xs i y) k ≡ Some z → ((k ≡ i) × (z ≡ y)) ⊎ ((k ≡ i → ⊥) × (slice_get xs k ≡ Some z))
set_cases [] i k y z e = cc
set_cases (x ∷ xs) zero zero y z e = let same : z ≡ y = cc in inl (refl, same)
set_cases (x ∷ xs) zero (suc k) y z e = inr (λ h. cc, e)
set_cases (x ∷ xs) (suc i) zero y z e = inr (λ h. cc, e)
set_cases (x ∷ xs) (suc i) (suc k) y z e = elim (set_cases xs i k y z e) [
  | inl h ↦ inl (ap suc h.0, h.1)
  | inr h ↦ inr (λ s. let same : k ≡ i = cc in h.0 same, h.1)
]

-- there is an element at each place within
pub there : {X : Type 0} (xs : List X) (k : ℕ) → k < length xs → (x : X) × (slice_get xs k ≡ Some x)
there [] k lt = absurd (omega arith)
there (x ∷ xs) zero lt = (x, refl)
there (x ∷ xs) (suc k) lt = there xs k (omega arith)

-- one after the other
pub beside_on : {X Y Z : Type 0} (P : ℕ → X → Y → Type 0) (Q : ℕ → Y → Z → Type 0) (R : ℕ → X → Z → Type 0) (xs : List X) (ys : List Y) (zs : List Z) → ((k : ℕ) (x : X) (y : Y) (z : Z) → P k x y → Q k y z → R k x z) → Beside P xs ys → Beside Q ys zs → Beside R xs zs
beside_on P Q R xs ys zs f p q = record {
  count = q.count ∙ p.count;
  each = λ k x z a c.
      let within = slice_get_within xs k x a in
      let long = p.count in
      let y = there ys k (omega (arith, within, long)) in
      f k x y.0 z (p.each k x y.0 a y.1) (q.each k y.0 z y.1 c);
}

-- of a list with itself
pub beside_same : {X : Type 0} (P : ℕ → X → X → Type 0) (xs : List X) → ((k : ℕ) (x : X) → slice_get xs k ≡ Some x → P k x x) → Beside P xs xs
beside_same P xs f = record {
  count = refl;
  each = λ k x y a b. let same : x ≡ y = cc in subst (λ z. P k x z) same (f k x a);
}

-- where one element was set
pub beside_set : {X Y : Type 0} (P Q : ℕ → X → Y → Type 0) (xs : List X) (ys : List Y) (i : ℕ) (w : Y) → ((x : X) → slice_get xs i ≡ Some x → Q i x w) → ((k : ℕ) (x : X) (y : Y) → (k ≡ i → ⊥) → slice_get xs k ≡ Some x → slice_get ys k ≡ Some y → P k x y → Q k x y) → Beside P xs ys → Beside Q xs (slice_set ys i w)
beside_set {X} {Y} P Q xs ys i w here others p = record {
  count = length-set ys i w ∙ p.count;
  each = λ k x y a b. elim (set_cases ys i k w y b) [
    | inl h ↦
        let e : i ≡ k = sym h.0 in
        let at : slice_get xs i ≡ Some x = ap (slice_get xs) e ∙ a in
        subst (λ j. Q j x y) e (subst (λ (z : Y). Q i x z) (sym h.1) (here x at))
    | inr h ↦ others k x y h.0 a h.1 (p.each k x y a h.1)
  ];
}

-- what waited, what came and what went, twice
pub lists_on : {X : Type 0} (a b c p q m z : List X) → a ++ b ≡ p ++ m → m ++ c ≡ q ++ z → a ++ (b ++ c) ≡ (p ++ q) ++ z
lists_on a b c p q m z e f = sym (append_assoc a b c) ∙ (ap (λ l. l ++ c) e ∙ (append_assoc p m c ∙ (ap (λ l. p ++ l) f ∙ sym (append_assoc p q z))))

-- what stands in a list with one element more
pub get_behind : {X : Type 0} (xs : List X) (y : X) (k : ℕ) (z : X) → slice_get (xs ++ y ∷ []) k ≡ Some z → (slice_get xs k ≡ Some z) ⊎ ((k ≡ length xs) × (z ≡ y))
get_behind [] y zero z e = let same : z ≡ y = cc in inr (refl, same)
get_behind [] y (suc k) z e = cc
get_behind (x ∷ xs) y zero z e = inl e
get_behind (x ∷ xs) y (suc k) z e = elim (get_behind xs y k z e) [
  | inl h ↦ inl h
  | inr h ↦ inr (ap suc h.0, h.1)
]

-- two lists with one element more
pub beside_push : {X Y : Type 0} (P : ℕ → X → Y → Type 0) (xs : List X) (ys : List Y) (x : X) (y : Y) → P (length xs) x y → Beside P xs ys → Beside P (xs ++ x ∷ []) (ys ++ y ∷ [])
beside_push {X} {Y} P xs ys x y h p =
    let long = p.count in
    let n = length-append xs (x ∷ []) in
    let m = length-append ys (y ∷ []) in record {
      count = omega (arith, long, n, m);
      each = λ k a b e f. elim (get_behind xs x k a e) [
        | inl u ↦ elim (get_behind ys y k b f) [
          | inl v ↦ p.each k a b u v
          | inr v ↦ let within = slice_get_within xs k a u in let at = v.0 in absurd (omega (arith, within, at, long))
        ]
        | inr u ↦ elim (get_behind ys y k b f) [
          | inl v ↦ let within = slice_get_within ys k b v in let at = u.0 in absurd (omega (arith, within, at, long))
          | inr v ↦ subst (λ j. P j a b) (sym u.0) (subst (λ (c : X). P (length xs) c b) (sym u.1) (subst (λ (c : Y). P (length xs) x c) (sym v.1) h))
        ]
      ];
    }

-- what stands in a list stands there with one element more, too
pub get_before : {X : Type 0} (xs : List X) (y : X) (k : ℕ) (z : X) → slice_get xs k ≡ Some z → slice_get (xs ++ y ∷ []) k ≡ Some z
get_before [] y k z e = cc
get_before (x ∷ xs) y zero z e = e
get_before (x ∷ xs) y (suc k) z e = get_before xs y k z e

-- the element more
pub get_last : {X : Type 0} (xs : List X) (y : X) (k : ℕ) → k ≡ length xs → slice_get (xs ++ y ∷ []) k ≡ Some y
get_last [] y zero e = refl
get_last [] y (suc k) e = absurd (omega (arith, e))
get_last (x ∷ xs) y zero e = absurd (omega (arith, e))
get_last (x ∷ xs) y (suc k) e = get_last xs y k (omega (arith, e))

-- two lists of which the second has no more: they have as many, one element is set, the first has one more
pub few_of : {X Y : Type 0} (P : ℕ → X → Y → Type 0) (xs : List X) (ys : List Y) → Beside P xs ys → BesideFew P xs ys
few_of P xs ys h = let long = h.count in record { few = omega (arith, long); each = h.each }

pub few_set : {X Y : Type 0} (P : ℕ → X → Y → Type 0) (xs : List X) (ys : List Y) (i : ℕ) (w : Y) → ((x : X) → slice_get xs i ≡ Some x → P i x w) → BesideFew P xs ys → BesideFew P xs (slice_set ys i w)
few_set {X} {Y} P xs ys i w here p =
    let long = length-set ys i w in
    let few = p.few in record {
      few = omega (arith, long, few);
      each = λ k x y a b. elim (set_cases ys i k w y b) [
        | inl h ↦
            let e : i ≡ k = sym h.0 in
            let at : slice_get xs i ≡ Some x = ap (slice_get xs) e ∙ a in
            subst (λ j. P j x y) e (subst (λ (z : Y). P i x z) (sym h.1) (here x at))
        | inr h ↦ p.each k x y a h.1
      ];
    }

pub few_more : {X Y : Type 0} (P : ℕ → X → Y → Type 0) (xs : List X) (ys : List Y) (x : X) → BesideFew P xs ys → BesideFew P (xs ++ x ∷ []) ys
few_more P xs ys x p =
    let n = length-append xs (x ∷ []) in
    let few = p.few in record {
      few = omega (arith, n, few);
      each = λ k a y u v. elim (get_behind xs x k a u) [
        | inl h ↦ p.each k a y h v
        | inr h ↦ let within = slice_get_within ys k y v in let at = h.0 in absurd (omega (arith, within, at, few))
      ];
    }

-- the second has one more
pub few_push : {X Y : Type 0} (P : ℕ → X → Y → Type 0) (xs : List X) (ys : List Y) (x : X) (y : Y) → slice_get xs (length ys) ≡ Some x → P (length ys) x y → BesideFew P xs ys → BesideFew P xs (ys ++ y ∷ [])
few_push {X} {Y} P xs ys x y at h p =
    let within = slice_get_within xs (length ys) x at in
    let n = length-append ys (y ∷ []) in record {
      few = omega (arith, within, n);
      each = λ k a b u v. elim (get_behind ys y k b v) [
        | inl w ↦ p.each k a b u w
        | inr w ↦
            let here : slice_get xs k ≡ Some x = ap (slice_get xs) w.0 ∙ at in
            let same : x ≡ a = cc in
            subst (λ j. P j a b) (sym w.0) (subst (λ (c : X). P (length ys) c b) same (subst (λ (c : Y). P (length ys) x c) (sym w.1) h))
      ];
    }
