-- Lanes by their places.
use Rattle.std.proofs.Common.{◌≡◌, ◌⊎◌, inl, inr, ℕ, zero, suc, ◌<◌, nat_eq, Bool, true, false, List, [], ◌∷◌, length, slice_get, slice_index_or, slice_set, take, Option, Some, None, IfSome, IfNone, option_map, refl, ap, sym, ◌∙◌, arith, subst}
use Rattle.std.proofs.lemmas.Bool.Decides.{nat_tests}
use Rattle.rsx_sources.specs.Prelude.{Signal, Next, front_of}
use Rattle.rsx_sources.specs.declared.machine.Front.{Front}
use Rattle.rsx_sources.specs.declared.machine.Front.TheVariants.{Item}
use Rattle.rsx_values.specs.Prelude.{InputLeft, next_of, TakesAt, TakesNext}
use Rattle.rsx_values.proofs.Places.{given_at, next_at, NotAmong}
use Rattle.rsx_merging.specs.Lanes.{next_front, may_take, IsPlaceOf, TakesItem}

-- which signal is given at a place
given_front : {T : Type 0} (is : List (InputLeft T)) (k n : ℕ) (ss : List (Signal T)) → option_map front_of (slice_get ss 0) ≡ option_map (λ p. front_of p.0) (given_at is k n ss)
given_front is k n [] = refl
given_front is k n (s ∷ ss) = refl

pub front_there : {T : Type 0} (c : ℕ) (is : List (InputLeft T)) (k : ℕ) (i : InputLeft T) (o : Option Front) → IsPlaceOf c is (Some k) → slice_index_or is k i ≡ i → o ≡ option_map front_of (slice_get i.1 0) → o ≡ next_front c is
front_there c is k i o place at front = front ∙ given_front is k i.0 i.1 ∙ ap (option_map (λ p. front_of p.0)) (sym (place.1 i at))

-- the signal at a place was taken
pub taken_there : {T : Type 0} (c : ℕ) (is : List (InputLeft T)) (k : ℕ) (i : InputLeft T) (o : Option (Signal T)) (new : List (InputLeft T)) → IsPlaceOf c is (Some k) → slice_index_or is k i ≡ i → TakesAt is k i o new → TakesNext c is o new
taken_there c is k i None new place at h = place.1 i at ∙ ap (given_at is k i.0) h
taken_there c is k i (Some s) new place at h = place.1 i at ∙ ap (given_at is k i.0) h.1 ∙ ap (λ js. Some (s, js)) (sym h.2)

-- the element at a place
pub some_lane : {A : Type 0} (is : List A) (k : ℕ) → k < length is → (i : A) × (slice_index_or is k i ≡ i)
some_lane [] k lt = absurd (omega arith)
some_lane (i ∷ is) zero lt = (i, refl)
some_lane (i ∷ is) (suc k) lt = some_lane is k (omega arith)

-- the signal at a place was taken, whichever lane stands there
pub placed_taken : {T : Type 0} (c : ℕ) (is : List (InputLeft T)) (k : ℕ) (o : Option (Signal T)) (new : List (InputLeft T)) → IsPlaceOf c is (Some k) → ((i : InputLeft T) → slice_index_or is k i ≡ i → TakesAt is k i o new) → TakesNext c is o new
placed_taken c is k o new place h = let lane = some_lane is k place.0 in taken_there c is k lane.0 o new place lane.1 (h lane.0 lane.1)

-- the item at a place was taken, of the lane i there, which is j then
pub item_taken : {T : Type 0} (c : ℕ) (is : List (InputLeft T)) (k : ℕ) (i j : InputLeft T) (o : Option T) (new : List (InputLeft T)) → IsPlaceOf c is (Some k) → next_front c is ≡ Some Item → slice_index_or is k i ≡ i →
    IfSome o (λ x. i.1 ≡ Next x ∷ j.1) → IfNone o (option_map front_of (slice_get i.1 0) ≡ Some Item → ⊥) → j.0 ≡ i.0 → new ≡ slice_set is k j → TakesItem c is o new
item_taken c is k i j None new place front at some none number left = none (front_there c is k i (option_map front_of (slice_get i.1 0)) place at refl ∙ front)
item_taken c is k i j (Some x) new place front at some none number left = taken_there c is k i (Some (Next x)) new place at (j.1, some, left ∙ ap (λ n. slice_set is k (n, j.1)) number)

-- a choice finds nothing, or it is the number of a lane
among : {T : Type 0} (c : ℕ) (is : List (InputLeft T)) → (next_of c is ≡ None) ⊎ ((k : ℕ) × (i : InputLeft T) × (k < length is) × (slice_index_or is k i ≡ i) × (c ≡ i.0))
among c [] = inl refl
among {T} c (i ∷ is) = by_test (nat_eq c i.0) refl (among c is)
  where
    by_test : (b : Bool) → nat_eq c i.0 ≡ b → (next_of c is ≡ None) ⊎ ((k : ℕ) × (i : InputLeft T) × (k < length is) × (slice_index_or is k i ≡ i) × (c ≡ i.0)) →
        (next_of c (i ∷ is) ≡ None) ⊎ ((k : ℕ) × (j : InputLeft T) × (k < length (i ∷ is)) × (slice_index_or (i ∷ is) k j ≡ j) × (c ≡ j.0))
    by_test true e r = inr (0, i, omega arith, refl, grind (arith, nat_tests))
    by_test false e (inl none) = inl (rw (e, none) refl)
    by_test false e (inr (k, j, lt, at, same)) = inr (suc k, j, omega arith, at, same)

-- nothing may be taken of any lane
pub none_ready : {T : Type 0} (is : List (InputLeft T)) (items : Bool) → ((k : ℕ) (i : InputLeft T) → k < length is → slice_index_or is k i ≡ i → may_take (next_front i.0 is) items ≡ false) → (c : ℕ) → may_take (next_front c is) items ≡ false
none_ready {T} is items h c = by_place (among c is)
  where
    by_place : (next_of c is ≡ None) ⊎ ((k : ℕ) × (i : InputLeft T) × (k < length is) × (slice_index_or is k i ≡ i) × (c ≡ i.0)) → may_take (next_front c is) items ≡ false
    by_place (inl none) = ap (λ o. may_take (option_map (λ p. front_of p.0) o) items) none
    by_place (inr (k, i, lt, at, same)) = subst (λ n. may_take (next_front n is) items ≡ false) (sym same) (h k i lt at)

-- there is one lane at a place
pub same_lane : {A : Type 0} (is : List A) (k : ℕ) (i j : A) → k < length is → slice_index_or is k i ≡ i → slice_index_or is k j ≡ j → i ≡ j
same_lane [] k i j lt a b = absurd (omega arith)
same_lane (x ∷ is) zero i j lt a b = sym a ∙ b
same_lane (x ∷ is) (suc k) i j lt a b = same_lane is k i j (omega arith) a b

-- a lane with the number was found, and none before it has that
pub place_there : {T : Type 0} (c : ℕ) (is : List (InputLeft T)) (k : ℕ) (j : InputLeft T) → k < length is → slice_index_or is k j ≡ j → NotAmong c (take k is) → nat_eq c j.0 ≡ true → IsPlaceOf c is (Some k)
place_there c is k j lt at none test = (lt, λ i here. next_at c is k i lt here none (subst (λ z. nat_eq c z.0 ≡ true) (same_lane is k j i lt at here) test))

-- a lane from which nothing is next has nothing left
pub none_next : {T : Type 0} (is : List (InputLeft T)) (k : ℕ) (i j : InputLeft T) (o : Option Front) → k < length is → slice_index_or is k i ≡ i → slice_index_or is k j ≡ j → o ≡ option_map front_of (slice_get j.1 0) → o ≡ None → i.1 ≡ []
none_next {T} is k i j o lt here at front none = ap (λ z. z.1) (same_lane is k i j lt here at) ∙ by_list j.1 (sym front ∙ none)
  where
    by_list : (ss : List (Signal T)) → option_map front_of (slice_get ss 0) ≡ None → ss ≡ []
    by_list [] e = refl
    by_list (s ∷ ss) e = cc
