-- Counts of the places' steps, over one seat and over all.
use Rattle.std.proofs.Common.{◌≡◌, ◌≢◌, ℕ, zero, suc, ◌+◌, ◌≤◌, List, [], ◌∷◌, ◌++◌, set, Option, Some, None, IfSome, refl, sym, ap, ◌∙◌, arith}
use Rattle.std.proofs.lemmas.List.{append_assoc}
use mathlib.Core.Option.{some, some-injective, some-ne-none}
use lib.ListN.{get_elem?}
use Rattle.rsx_link.specs.declared.place.PlaceStep.{PlaceStep}
use Rattle.rsx_link.specs.declared.place.PlaceView.{PlaceView}
use Rattle.rsx_link.specs.Link.{total}
use Rattle.rsx_link.specs.PlaceSteps.{offer_of, collect_of, offers_at, collects_at, number_of, AllName, flat}
use Rattle.rsx_link.specs.Places.{more, with_parts, newcomer, joined, spent, steps_of, count_in, tally}
use Rattle.rsx_link.proofs.Totals.{total-set, total-append}

module _ {X : Type 0} (f g : X → ℕ) where
  -- what is smaller of each is smaller of all, also without one of them
  pub total_less : (l : List X) → ((i : ℕ) (x : X) → get_elem? l i ≡ some x → f x ≤ g x) → total f l ≤ total g l
  total_less [] le = omega arith
  total_less (x ∷ xs) le = let h = le zero x refl in let rest = total_less xs (λ i y e. le (suc i) y e) in omega arith

  pub total_less_but : (l : List X) (i : ℕ) (a : X) → get_elem? l i ≡ some a → ((j : ℕ) (x : X) → get_elem? l j ≡ some x → f x ≤ g x) → total f l + g a ≤ total g l + f a
  total_less_but [] i a at le = absurd (some-ne-none a (sym at))
  total_less_but (x ∷ xs) zero a at le =
      let one : f x ≡ f a = ap f (some-injective x a at) in let two : g x ≡ g a = ap g (some-injective x a at) in
      let rest = total_less xs (λ j y e. le (suc j) y e) in omega arith
  total_less_but (x ∷ xs) (suc i) a at le = let h = le zero x refl in let rest = total_less_but xs i a at (λ j y e. le (suc j) y e) in omega arith

  -- who has something of f alone has all of it
  pub total_alone : (l : List X) (i : ℕ) (a : X) → get_elem? l i ≡ some a → ((j : ℕ) (x : X) → get_elem? l j ≡ some x → j ≢ i → f x ≡ 0) → total f l ≡ f a
  total_alone [] i a at none = absurd (some-ne-none a (sym at))
  total_alone (x ∷ xs) zero a at none = let one : f x ≡ f a = ap f (some-injective x a at) in let rest = nothing_of xs (λ j y e. none (suc j) y e (λ z. absurd (omega arith))) in omega arith
    where
      nothing_of : (l : List X) → ((j : ℕ) (x : X) → get_elem? l j ≡ some x → f x ≡ 0) → total f l ≡ 0
      nothing_of [] none = refl
      nothing_of (x ∷ xs) none = let h = none zero x refl in let rest = nothing_of xs (λ j y e. none (suc j) y e) in omega arith
  total_alone (x ∷ xs) (suc i) a at none = let h = none zero x refl (λ z. absurd (omega arith)) in let rest = total_alone xs i a at (λ j y e ne. none (suc j) y e (λ z. ne (omega arith))) in omega arith

  -- who has all of f has all of g, where nothing of f is nothing of g
  pub total_only : (l : List X) (i : ℕ) (a : X) → get_elem? l i ≡ some a → ((j : ℕ) (x : X) → get_elem? l j ≡ some x → f x ≡ 0 → g x ≡ 0) → total f l ≤ f a → total g l ≡ g a
  total_only [] i a at none all = absurd (some-ne-none a (sym at))
  total_only (x ∷ xs) zero a at none all =
      let one : f x ≡ f a = ap f (some-injective x a at) in let two : g x ≡ g a = ap g (some-injective x a at) in
      let rest = total_none xs (λ j y e. none (suc j) y e) (omega arith) in omega arith
    where
      total_none : (l : List X) → ((j : ℕ) (x : X) → get_elem? l j ≡ some x → f x ≡ 0 → g x ≡ 0) → total f l ≡ 0 → total g l ≡ 0
      total_none [] none e = refl
      total_none (x ∷ xs) none e = let h = none zero x refl (omega arith) in let rest = total_none xs (λ j y a. none (suc j) y a) (omega arith) in omega arith
  total_only (x ∷ xs) (suc i) a at none all =
      let some = part xs i a at in
      let h = none zero x refl (omega arith) in let rest = total_only xs i a at (λ j y e. none (suc j) y e) (omega arith) in omega arith
    where
      part : (l : List X) (i : ℕ) (a : X) → get_elem? l i ≡ some a → f a ≤ total f l
      part [] i a at = absurd (some-ne-none a (sym at))
      part (x ∷ xs) zero a at = let e : f x ≡ f a = ap f (some-injective x a at) in omega arith
      part (x ∷ xs) (suc i) a at = let h = part xs i a at in omega arith

module _ {P : Type 0} where
  flat-append : (ls ms : List (List (PlaceStep P))) → flat (ls ++ ms) ≡ flat ls ++ flat ms
  flat-append [] ms = refl
  flat-append (l ∷ ls) ms = ap (λ k. l ++ k) (flat-append ls ms) ∙ sym (append_assoc l (flat ls) (flat ms))

  pub all_name-append : (k : ℕ) (p : P) (xs ys : List (PlaceStep P)) → AllName k p xs → AllName k p ys → AllName k p (xs ++ ys)
  all_name-append k p [] ys a b = b
  all_name-append k p (x ∷ xs) ys a b = (a.0, all_name-append k p xs ys a.1 b)

  nothing : (q : Option P) (p : P) → number_of q ≡ 0 → IfSome q (λ r. r ≡ p)
  nothing None p e = tt
  nothing (Some q) p e = absurd (omega arith)

  -- where nothing was offered or collected, whatever was is p
  pub all_none : (k : ℕ) (p : P) (xs : List (PlaceStep P)) → total (offers_at k) xs ≡ 0 → total (collects_at k) xs ≡ 0 → AllName k p xs
  all_none k p [] o c = tt
  all_none k p (x ∷ xs) o c = ((nothing (offer_of k x) p (omega arith), nothing (collect_of k x) p (omega arith)), all_none k p xs (omega arith) (omega arith))

module _ {E P : Type 0} where
  pub steps_joined : (v w : PlaceView E P) → steps_of (joined v w) ≡ steps_of v ++ steps_of w
  steps_joined v w = ap (λ l. v.steps ++ l) (flat-append v.beside (w.steps ∷ w.beside)) ∙ sym (append_assoc v.steps (flat v.beside) (steps_of w))

  module _ (f : PlaceStep P → ℕ) where
    pub count_joined : (v w : PlaceView E P) → count_in f (joined v w) ≡ count_in f v + count_in f w
    count_joined v w = ap (total f) (steps_joined v w) ∙ total-append f (steps_of v) (steps_of w)

    -- one step of one seat
    pub tally_step : (views : List (PlaceView E P)) (id : ℕ) (v : PlaceView E P) (x : PlaceStep P) → get_elem? views id ≡ some v → tally f (set views id (more v x)) ≡ f x + tally f views
    tally_step views id v x at = let h = total-set (count_in f) views id v (more v x) at in omega arith

    pub tally_split : (views : List (PlaceView E P)) (id : ℕ) (v : PlaceView E P) (m n : ℕ) (ends : Option (List E)) → get_elem? views id ≡ some v
        → tally f (set views id (with_parts v m) ++ newcomer ends n ∷ []) ≡ tally f views
    tally_split views id v m n ends at =
        let one = total-set (count_in f) views id v (with_parts v m) at in
        let two = total-append (count_in f) (set views id (with_parts v m)) (newcomer ends n ∷ []) in omega arith

    pub tally_join : (views : List (PlaceView E P)) (id : ℕ) (v : PlaceView E P) (other : ℕ) (w : PlaceView E P) → get_elem? views id ≡ some v → get_elem? (set views id (joined v w)) other ≡ some w
        → tally f (set (set views id (joined v w)) other spent) ≡ tally f views
    tally_join views id v other w at at' =
        let one = total-set (count_in f) views id v (joined v w) at in
        let two = total-set (count_in f) (set views id (joined v w)) other w spent at' in
        let sum = count_joined v w in omega arith
