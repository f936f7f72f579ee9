-- An end that is read at a place, and one that is put there.
use Rattle.std.proofs.Common.{◌≡◌, ℕ, ◌<◌, List, length, ap, sym, ◌∙◌, subst, arith, get_or, refl, Some, slice_get, slice_set}
use Rattle.std.proofs.lemmas.Option.{slice_get_read}
use Rattle.rsx_serialized.specs.Ends.{BesideFew}
use Rattle.rsx_serialized.proofs.Lists.{few_set, there}

module _ {X Y : Type 0} (xs : List X) (ys : List Y) (k : ℕ) (y : Y) (less : k < length ys) (read : y ≡ get_or ys k y) where
  at : slice_get ys k ≡ Some y
  at = slice_get_read ys (length ys) k y refl less read

  -- what stands beside it
  pub beside : (P : ℕ → X → Y → Type 0) → BesideFew P xs ys → (x : X) × (slice_get xs k ≡ Some x) × P k x y
  beside P h =
      let few = h.few in
      let x = there xs k (omega (arith, less, few)) in
      (x.0, x.1, h.each k x.0 y x.1 at)

  -- the one with its number
  pub own : (number : Y → ℕ) (Q : X → Y → Type 0) → BesideFew (λ j x v. (number v ≡ j) × Q x v) xs ys → (x : X) × (slice_get xs (number y) ≡ Some x) × Q x y
  own number Q h =
      let b = beside (λ j x v. (number v ≡ j) × Q x v) h in
      (b.0, ap (slice_get xs) b.2.0 ∙ b.1, b.2.1)

  -- another one with its number may stand in its place
  pub own_set : (number : Y → ℕ) (Q : X → Y → Type 0) (z : Y) → BesideFew (λ j x v. (number v ≡ j) × Q x v) xs ys → (x : X) × (slice_get xs (number y) ≡ Some x) × (Q x z × (number z ≡ number y)) → BesideFew (λ j x v. (number v ≡ j) × Q x v) xs (slice_set ys k z)
  own_set number Q z h now =
      let P : ℕ → X → Y → Type 0 = λ j x v. (number v ≡ j) × Q x v in
      let b = beside P h in
      let here : slice_get xs k ≡ Some now.0 = ap (slice_get xs) (sym b.2.0) ∙ now.1 in
      few_set P xs ys k z (λ x e. let same : now.0 ≡ x = cc in (now.2.1 ∙ b.2.0, subst (λ (w : X). Q w z) same now.2.0)) h

  -- the same, where what stands beside it was read
  pub own_put : (number : Y → ℕ) (Q : X → Y → Type 0) (x : X) (z : Y) → x ≡ get_or xs k x → BesideFew (λ j w v. (number v ≡ j) × Q w v) xs ys → Q x z → number z ≡ number y → BesideFew (λ j w v. (number v ≡ j) × Q w v) xs (slice_set ys k z)
  own_put number Q x z is h q e =
      let P : ℕ → X → Y → Type 0 = λ j w v. (number v ≡ j) × Q w v in
      let few = h.few in
      let here : slice_get xs k ≡ Some x = slice_get_read xs (length xs) k x refl (omega (arith, less, few)) is in
      let b = beside P h in
      few_set P xs ys k z (λ w f. let same : x ≡ w = cc in (e ∙ b.2.0, subst (λ (u : X). Q u z) same q)) h

  -- what was read beside it stands at its number
  pub own_read : (number : Y → ℕ) (Q : X → Y → Type 0) (x : X) → x ≡ get_or xs k x → BesideFew (λ j w v. (number v ≡ j) × Q w v) xs ys → (slice_get xs (number y) ≡ Some x) × Q x y
  own_read number Q x is h =
      let few = h.few in
      let here : slice_get xs k ≡ Some x = slice_get_read xs (length xs) k x refl (omega (arith, less, few)) is in
      let b = beside (λ j w v. (number v ≡ j) × Q w v) h in
      let same : b.0 ≡ x = cc in
      (ap (slice_get xs) b.2.0 ∙ here, subst (λ (w : X). Q w y) same b.2.1)
