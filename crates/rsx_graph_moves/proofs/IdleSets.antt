-- What is known of idle subscriptions, for each hub.
use Rattle.std.proofs.Common.{◌≡◌, ℕ, zero, suc, ◌<◌, ◌⊎◌, inl, inr, List, [], ◌∷◌, length, get_or, set, slice_get, Some, refl, ap, sym, subst}
use Rattle.std.specs.Prelude.{◌↔◌}
use Rattle.std.proofs.lemmas.Bool.{cases_eq}
use Rattle.std.proofs.lemmas.Option.{slice_get-get_or}
use Rattle.rsx_graph_state.specs.SubscriptionSet.{IsIn}
use Rattle.rsx_graph_state.specs.declared.subscription_set.SubscriptionSet.{SubscriptionSet}
use Rattle.rsx_graph_moves.specs.IdleSet as Idle
use Rattle.rsx_graph_moves.specs.declared.idle_set.IdleSet.{IdleSet}

-- of this subscription something was found
abbrev pub WasFound : List SubscriptionSet → ℕ → ℕ → Type 0
WasFound apart h i = (found : SubscriptionSet) × (slice_get apart h ≡ Some found) × IsIn found i

-- ---- a list with one element changed

pub set_other : {A : Type 0} (xs : List A) (k i : ℕ) (x y : A) → (i ≡ k → ⊥) → slice_get (set xs k x) i ≡ Some y → slice_get xs i ≡ Some y
set_other [] k i x y ne e = cc
set_other (z ∷ xs) zero zero x y ne e = absurd (ne refl)
set_other (z ∷ xs) zero (suc i) x y ne e = e
set_other (z ∷ xs) (suc k) zero x y ne e = e
set_other (z ∷ xs) (suc k) (suc i) x y ne e = set_other xs k i x y (λ same. ne (ap suc same)) e

pub set_same : {A : Type 0} (xs : List A) (k : ℕ) (x y : A) → slice_get (set xs k x) k ≡ Some y → x ≡ y
set_same [] k x y e = cc
set_same (z ∷ xs) zero x y e = some_same x y e
  where
    some_same : {A : Type 0} (a b : A) → Some a ≡ Some b → a ≡ b
    some_same a b e = cc
set_same (z ∷ xs) (suc k) x y e = set_same xs k x y e

-- ---- what is found of one hub is changed

pub found_set : (apart : List SubscriptionSet) (k h i : ℕ) (new : SubscriptionSet) → WasFound (set apart k new) h i → ((h ≡ k) × IsIn new i) ⊎ ((h ≡ k → ⊥) × WasFound apart h i)
found_set apart k h i new was = elim (cases_eq h k) [
  | inl same ↦
      let P : ℕ → Type 0 = λ n. slice_get (set apart k new) n ≡ Some was.0 in
      let Q : SubscriptionSet → Type 0 = λ x. IsIn x i in
      inl (same, subst Q (sym (set_same apart k new was.0 (subst P same was.1))) was.2)
  | inr other ↦ inr (other, (was.0, set_other apart k h new was.0 other was.1, was.2))
]

-- of the hub with this number
pub found_there : (apart : List SubscriptionSet) (k h i : ℕ) (x : SubscriptionSet) → k < length apart → h ≡ k → IsIn (get_or apart k x) i → WasFound apart h i
found_there apart k h i x within same has = let P : ℕ → Type 0 = λ n. WasFound apart n i in subst P (sym same) (get_or apart k x, slice_get-get_or apart k x within, has)

-- ---- the idle ones are the same

pub idle_same : (a b : IdleSet) → a.idle ≡ b.idle → (i : ℕ) → Idle.IsIn a i ↔ Idle.IsIn b i
unfolding Idle.IsIn
idle_same a b same i =
    let P : SubscriptionSet → Type 0 = λ x. IsIn x i in
    (λ has. subst P same has, λ had. subst P (sym same) had)
