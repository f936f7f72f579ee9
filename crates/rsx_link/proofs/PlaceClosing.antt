-- What is left at the places, once the collector's seat and the offering seats are one.
use Rattle.std.proofs.Common.{◌≡◌, ℕ, ◌+◌, ◌<◌, ◌≤◌, List, [], ◌∷◌, ◌++◌, length, Option, Some, None, IfSome, refl, sym, ap, ◌∙◌, subst, arith}
use mathlib.Core.Logic.{dite}
use mathlib.Core.Option.{some}
use native.Mathlib.Decide.{dec_le}
use lib.ListN.{get_elem?}
use Rattle.atomic_table.specs.Table.{State, Final, Seen}
use Rattle.rsx_link.specs.declared.place.Place.{Place}
use Rattle.rsx_link.specs.declared.place.Place.TheVariants.{Free, Offered}
use Rattle.rsx_link.specs.declared.place.PlaceStep.{PlaceStep}
use Rattle.rsx_link.specs.declared.place.PlaceView.{PlaceView}
use Rattle.rsx_link.specs.Link.{total}
use Rattle.rsx_link.specs.PlaceSteps.{ticket_of, offer_of, collect_of, offers_at, collects_at, number_of, or_else, found_in, AllName}
use Rattle.rsx_link.specs.Places.{all_parts, joined, steps_of, count_in, tally, Kept}
use Rattle.rsx_link.proofs.PlaceCounts.{total_alone, total_only, steps_joined, count_joined}
use Rattle.rsx_link.proofs.PlaceKeeps.{earned}
use Rattle.rsx_link.proofs.Totals.{le-total}

module _ {P : Type 0} (f : PlaceStep P → Option P) where
  at : PlaceStep P → ℕ
  at x = number_of (f x)

  -- where a part is found it counts, and it is the one that all name
  pub some_found : (k : ℕ) (p q : P) → ((x : PlaceStep P) (xs : List (PlaceStep P)) → AllName k p (x ∷ xs) → IfSome (f x) (λ r. r ≡ p)) → (steps : List (PlaceStep P))
      → found_in f steps ≡ Some q → AllName k p steps → q ≡ p
  some_found k p q names [] e all = absurd (cc)
  some_found k p q names (x ∷ xs) e all = here (f x) (found_in f xs) e (names x xs all) (λ rest. some_found k p q names xs rest all.1)
    where
      here : (a b : Option P) → or_else a b ≡ Some q → IfSome a (λ r. r ≡ p) → (b ≡ Some q → q ≡ p) → q ≡ p
      here None b e n rest = rest e
      here (Some a) b e n rest = let same : a ≡ q = cc in sym same ∙ n

  pub counts_found : (q : P) (steps : List (PlaceStep P)) → found_in f steps ≡ Some q → 0 < total (λ x. number_of (f x)) steps
  counts_found q [] e = absurd (cc)
  counts_found q (x ∷ xs) e = here (f x) (found_in f xs) e (λ rest. counts_found q xs rest)
    where
      here : (a b : Option P) → or_else a b ≡ Some q → (b ≡ Some q → 0 < total (λ x. number_of (f x)) xs) → 0 < number_of a + total (λ x. number_of (f x)) xs
      here None b e rest = let h = rest e in omega arith
      here (Some a) b e rest = omega arith

  pub none_found : (steps : List (PlaceStep P)) → found_in f steps ≡ None → total (λ x. number_of (f x)) steps ≡ 0
  none_found [] e = refl
  none_found (x ∷ xs) e = here (f x) (found_in f xs) e (λ rest. none_found xs rest)
    where
      here : (a b : Option P) → or_else a b ≡ None → (b ≡ None → total (λ x. number_of (f x)) xs ≡ 0) → number_of a + total (λ x. number_of (f x)) xs ≡ 0
      here None b e rest = let h = rest e in omega arith
      here (Some a) b e rest = absurd (cc)

module _ {P : Type 0} where
  names_left : (k : ℕ) (p : P) (xs ys : List (PlaceStep P)) → AllName k p (xs ++ ys) → AllName k p xs
  names_left k p [] ys a = tt
  names_left k p (x ∷ xs) ys a = (a.0, names_left k p xs ys a.1)

  names_right : (k : ℕ) (p : P) (xs ys : List (PlaceStep P)) → AllName k p (xs ++ ys) → AllName k p ys
  names_right k p [] ys a = a
  names_right k p (x ∷ xs) ys a = names_right k p xs ys a.1

module _ {E P : Type 0} where
  -- v is the collector's view, w the offering seats', and xs is what is in the slots
  pub record LeavesAt (ends : List E) (v w : PlaceView E P) (xs : List (Place E P)) (k : ℕ) : Type 0 where
    pub offered : (q : P) → count_in (collects_at k) v ≡ 0 → found_in (offer_of k) (steps_of w) ≡ Some q → get_elem? xs k ≡ some (Offered q)
    pub same : (p q : P) → found_in (collect_of k) (steps_of v) ≡ Some p → found_in (offer_of k) (steps_of w) ≡ Some q → q ≡ p
    pub free : all_parts ≤ w.parts → found_in (offer_of k) (steps_of w) ≡ None → (count_in (collects_at k) v ≡ 0) × ((e : E) × (get_elem? ends k ≡ some e) × (get_elem? xs k ≡ some (Free e)))

  pub leaves : (ends : List E) (v w m : PlaceView E P) (id : ℕ) (words : List ℕ) (xs : List (Place E P)) → id ≡ 0 → m ≡ joined v w
      → ((k : ℕ) → (count_in (ticket_of k) v ≡ 0) × (count_in (offers_at k) v ≡ 0)) → ((k : ℕ) → count_in (collects_at k) w ≡ 0)
      → ((k : ℕ) → k < length ends → count_in (offers_at k) w ≡ count_in (ticket_of k) w)
      → Final (Seen (Kept ends) id m) words xs → (k : ℕ) → k < length ends → LeavesAt ends v w xs k
  leaves ends v w m id words xs first is draws never settled final k lt =
      let s = final.0 in let h = final.1.0 in
      let both = joined v w in
      let at : get_elem? s.views 0 ≡ some both = subst (λ (i : ℕ). get_elem? s.views i ≡ some both) first (subst (λ (z : PlaceView E P). get_elem? s.views id ≡ some z) is final.1.1) in
      let row = h.each k lt in let place = row.4 in
      let one = count_joined (collects_at k) v w in let none_w = never k in
      let collected : tally (collects_at k) s.views ≡ count_in (collects_at k) both = total_alone (count_in (collects_at k)) (λ _. 0) s.views 0 both at (λ j u e ne. (h.fits j u e).collects ne k) in
      let some_offered = le-total (count_in (offers_at k)) s.views 0 both at in
      let two = count_joined (offers_at k) v w in
      let word_is = place.offers in let once = place.once in let most = place.collects in
      let names : (p : P) → AllName k p (steps_of both) → AllName k p (steps_of v ++ steps_of w) = λ p a. subst (AllName k p) (steps_joined v w) a in
      let there : (y : Place E P) → row.1 ≡ some y → get_elem? xs k ≡ some y = λ y e. final.4 k y (row.3 ∙ ap some e) in record {
        offered = λ q none found.
            let counts = counts_found (offer_of k) q (steps_of w) found in
            let carried = place.carries (omega arith) in
            let all = names_right k carried.0 (steps_of v) (steps_of w) (names carried.0 (carried.1.names 0 both at)) in
            let same = some_found (offer_of k) k carried.0 q (λ x ys a. a.0.0) (steps_of w) found all in
            there (Offered q) (carried.1.waits (omega arith) ∙ ap (λ (r : P). some (Offered r)) (sym same));
        same = λ p q found_p found_q.
            let counts = counts_found (offer_of k) q (steps_of w) found_q in
            let carried = place.carries (omega arith) in
            let all = names carried.0 (carried.1.names 0 both at) in
            some_found (offer_of k) k carried.0 q (λ x ys a. a.0.0) (steps_of w) found_q (names_right k carried.0 (steps_of v) (steps_of w) all)
            ∙ sym (some_found (collect_of k) k carried.0 p (λ x ys a. a.0.1) (steps_of v) found_p (names_left k carried.0 (steps_of v) (steps_of w) all));
        free = λ whole none.
            let counts : count_in (offers_at k) w ≡ 0 = none_found (offer_of k) (steps_of w) none in
            let tickets = settled k lt in
            let three = count_joined (ticket_of k) v w in
            let drawn : tally (ticket_of k) s.views ≡ count_in (ticket_of k) both = total_only (λ (u : PlaceView E P). u.parts) (count_in (ticket_of k)) s.views 0 both at
            (λ j u e none_left. (h.fits j u e).idle none_left k) (let all = h.parts in omega arith) in
            let mine = draws k in
            let above : h.counter ≤ k = dite (dec_le h.counter k) (λ b. b) (λ no. let e = place.below (omega arith) in absurd (omega arith)) in
            let its = place.free above in
            let word_zero = earned_none ends s h k (omega arith) in
            ((omega arith), (its.0, its.1, there (Free its.0) its.2));
      }
    where
      earned_none : (ends : List E) (s : State (Place E P) (PlaceView E P)) (h : Kept ends s) (k : ℕ) → tally (ticket_of k) s.views ≡ 0 → tally (offers_at k) s.views ≡ 0
      earned_none ends s h k none = let e = earned ends s h k in omega arith

  -- where no seat is missing, what was collected was offered
  pub earned_by : (ends : List E) (v w : PlaceView E P) (xs : List (Place E P)) (k : ℕ) → LeavesAt ends v w xs k → all_parts ≤ w.parts → (p : P) → found_in (collect_of k) (steps_of v) ≡ Some p
      → found_in (offer_of k) (steps_of w) ≡ Some p
  earned_by ends v w xs k h whole p found = cases (found_in (offer_of k) (steps_of w)) refl
    where
      cases : (o : Option P) → found_in (offer_of k) (steps_of w) ≡ o → found_in (offer_of k) (steps_of w) ≡ Some p
      cases None e = let none = (h.free whole e).0 in let some_collected = counts_found (collect_of k) p (steps_of v) found in absurd (omega arith)
      cases (Some q) e = e ∙ ap Some (h.same p q found e)
