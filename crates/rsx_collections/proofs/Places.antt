-- Keys and the places where they stand.
use Rattle.std.proofs.Common.{◌≡◌, ◌∙◌, ℕ, zero, suc, ◌<◌, Bool, true, false, nat_eq, List, [], ◌∷◌, ◌++◌, length, slice_get, Option, Some, None, refl, ap, sym, arith, inl, inr, ◌⊎◌}
use Rattle.std.specs.Prelude.{is_some, cond}
use Rattle.std.specs.List.{AllZip}
use Rattle.std.specs.Set.{is_member}
use Rattle.std.proofs.lemmas.Bool.{eq-eqb, eqb-true, or_right}
use Rattle.std.proofs.lemmas.Option.{same_Some, slice_get_within}
use Rattle.rsx_types.proofs.Lists.{slice_get_behind}
use Rattle.rsx_collections.specs.Keys.{HasPlaces}

-- ---- a key that is there stands somewhere

pub key_there : (ks : List ℕ) (k i : ℕ) → slice_get ks i ≡ Some k → is_member nat_eq ks k ≡ true
key_there [] k i h = cc
key_there (j ∷ ks) k zero h = let same : j ≡ k = same_Some j k h in rw (same, eq-eqb k k refl) refl
key_there (j ∷ ks) k (suc i) h = or_right (nat_eq k j) (is_member nat_eq ks k) (key_there ks k i h)

pub stands_somewhere : (ks : List ℕ) (k : ℕ) → is_member nat_eq ks k ≡ true → (i : ℕ) × (slice_get ks i ≡ Some k)
stands_somewhere [] k h = cc
stands_somewhere (j ∷ ks) k h = by_test (nat_eq k j) refl (stands_somewhere ks k)
  where
    by_test : (t : Bool) → nat_eq k j ≡ t → (is_member nat_eq ks k ≡ true → (i : ℕ) × (slice_get ks i ≡ Some k)) → (i : ℕ) × (slice_get (j ∷ ks) i ≡ Some k)
    by_test true e rest = (0, ap Some (sym (eqb-true k j e)))
    by_test false e rest = let there = rest (rw e at h) in (suc there.0, there.1)

pub is_found : (ks : List ℕ) (place : ℕ → Option ℕ) (k : ℕ) → HasPlaces ks place → is_some (place k) ≡ is_member nat_eq ks k
is_found ks place k has = by_place (place k) refl
  where
    by_member : place k ≡ None → (b : Bool) → is_member nat_eq ks k ≡ b → false ≡ is_member nat_eq ks k
    by_member none false h = sym h
    by_member none true h = let there = stands_somewhere ks k h in let found : place k ≡ Some there.0 = has.found k there.0 there.1 in cc

    by_place : (o : Option ℕ) → place k ≡ o → is_some (place k) ≡ is_member nat_eq ks k
    by_place (Some i) e = let there : is_member nat_eq ks k ≡ true = key_there ks k i (has.stands k i e) in rw (e, there) refl
    by_place None e = let out : false ≡ is_member nat_eq ks k = by_member e (is_member nat_eq ks k) refl in rw e out

-- each key keeps its place
pub places_kept : (ks : List ℕ) (old new : ℕ → Option ℕ) → HasPlaces ks old → ((q : ℕ) → new q ≡ old q) → HasPlaces ks new
places_kept ks old new has is = record { stands = λ k i e. has.stands k i (sym (is k) ∙ e); found = λ k i e. is k ∙ has.found k i e }

-- ---- one key more, and one less

pub stays_in_place : (ks more : List ℕ) (k i : ℕ) → slice_get ks i ≡ Some k → slice_get (ks ++ more) i ≡ Some k
stays_in_place [] more k i h = cc
stays_in_place (j ∷ ks) more k zero h = h
stays_in_place (j ∷ ks) more k (suc i) h = stays_in_place ks more k i h

pub before_or_last : (ks : List ℕ) (k q i : ℕ) → slice_get (ks ++ k ∷ []) i ≡ Some q → (slice_get ks i ≡ Some q) ⊎ ((i ≡ length ks) × (k ≡ q))
before_or_last [] k q zero h = inr (refl, same_Some k q h)
before_or_last [] k q (suc i) h = cc
before_or_last (j ∷ ks) k q zero h = inl h
before_or_last (j ∷ ks) k q (suc i) h = further (before_or_last ks k q i h)
  where
    further : (slice_get ks i ≡ Some q) ⊎ ((i ≡ length ks) × (k ≡ q)) → (slice_get ks i ≡ Some q) ⊎ ((suc i ≡ length (j ∷ ks)) × (k ≡ q))
    further (inl there) = inl there
    further (inr last) = inr (ap suc last.0, last.1)

module _ (ks : List ℕ) (old new : ℕ → Option ℕ) (k : ℕ) where
  more_stand : HasPlaces ks old → ((q : ℕ) → new q ≡ cond (nat_eq k q) (Some (length ks)) (old q)) → (q i : ℕ) → new q ≡ Some i → slice_get (ks ++ k ∷ []) i ≡ Some q
  more_stand has is q i e = by_test (nat_eq k q) refl
    where
      by_test : (t : Bool) → nat_eq k q ≡ t → slice_get (ks ++ k ∷ []) i ≡ Some q
      by_test true h =
          let same : k ≡ q = eqb-true k q h in
          let whole : new q ≡ cond (nat_eq k q) (Some (length ks)) (old q) = is q in
          let put : new q ≡ Some (length ks) = rw h at whole in
          let place : length ks ≡ i = same_Some (length ks) i (sym put ∙ e) in
          rw (← place, ← same) (slice_get_behind ks k [])
      by_test false h =
          let whole : new q ≡ cond (nat_eq k q) (Some (length ks)) (old q) = is q in
          let put : new q ≡ old q = rw h at whole in
          stays_in_place ks (k ∷ []) q i (has.stands q i (sym put ∙ e))

  more_found : HasPlaces ks old → is_some (old k) ≡ false → ((q : ℕ) → new q ≡ cond (nat_eq k q) (Some (length ks)) (old q)) → (q i : ℕ) → slice_get (ks ++ k ∷ []) i ≡ Some q → new q ≡ Some i
  more_found has out is q i e = by_place (before_or_last ks k q i e)
    where
      by_test : slice_get ks i ≡ Some q → (t : Bool) → nat_eq k q ≡ t → new q ≡ Some i
      by_test there true h =
          let same : k ≡ q = eqb-true k q h in
          let found : old q ≡ Some i = has.found q i there in
          let other : is_some (old q) ≡ false = rw same at out in
          let bad : true ≡ false = sym (ap is_some found) ∙ other in cc
      by_test there false h =
          let whole : new q ≡ cond (nat_eq k q) (Some (length ks)) (old q) = is q in
          let put : new q ≡ old q = rw h at whole in
          put ∙ has.found q i there

      by_place : (slice_get ks i ≡ Some q) ⊎ ((i ≡ length ks) × (k ≡ q)) → new q ≡ Some i
      by_place (inl there) = by_test there (nat_eq k q) refl
      by_place (inr last) =
          let whole : new q ≡ cond (nat_eq k q) (Some (length ks)) (old q) = is q in
          let put : new q ≡ Some (length ks) = rw (eq-eqb k q last.1) at whole in
          put ∙ ap Some (sym last.0)

  -- a key that isn't there yet stands last
  pub places_more : HasPlaces ks old → is_some (old k) ≡ false → (last : ℕ) → last ≡ length ks → ((q : ℕ) → new q ≡ cond (nat_eq k q) (Some last) (old q)) → HasPlaces (ks ++ k ∷ []) new
  places_more has out last at is =
      let here : (q : ℕ) → new q ≡ cond (nat_eq k q) (Some (length ks)) (old q) = λ q. is q ∙ ap (λ n. cond (nat_eq k q) (Some n) (old q)) at in
      record { stands = more_stand has here; found = more_found has out here }

  less_stand : HasPlaces (ks ++ k ∷ []) old → ((q : ℕ) → new q ≡ cond (nat_eq k q) None (old q)) → (q i : ℕ) → new q ≡ Some i → slice_get ks i ≡ Some q
  less_stand has is q i e = by_test (nat_eq k q) refl
    where
      by_place : nat_eq k q ≡ false → (slice_get ks i ≡ Some q) ⊎ ((i ≡ length ks) × (k ≡ q)) → slice_get ks i ≡ Some q
      by_place h (inl there) = there
      by_place h (inr last) = let bad : true ≡ false = sym (eq-eqb k q last.1) ∙ h in cc

      by_test : (t : Bool) → nat_eq k q ≡ t → slice_get ks i ≡ Some q
      by_test true h =
          let whole : new q ≡ cond (nat_eq k q) None (old q) = is q in
          let gone : new q ≡ None = rw h at whole in
          let none : None ≡ Some i = sym gone ∙ e in
          cc
      by_test false h =
          let whole : new q ≡ cond (nat_eq k q) None (old q) = is q in
          let put : new q ≡ old q = rw h at whole in
          by_place h (before_or_last ks k q i (has.stands q i (sym put ∙ e)))

  less_found : HasPlaces (ks ++ k ∷ []) old → ((q : ℕ) → new q ≡ cond (nat_eq k q) None (old q)) → (q i : ℕ) → slice_get ks i ≡ Some q → new q ≡ Some i
  less_found has is q i e = by_test (nat_eq k q) refl
    where
      here : old q ≡ Some i
      here = has.found q i (stays_in_place ks (k ∷ []) q i e)

      last : old k ≡ Some (length ks)
      last = has.found k (length ks) (slice_get_behind ks k [])

      by_test : (t : Bool) → nat_eq k q ≡ t → new q ≡ Some i
      by_test true h =
          let same : k ≡ q = eqb-true k q h in
          let both : old q ≡ Some (length ks) = rw same at last in
          let place : i ≡ length ks = same_Some i (length ks) (sym here ∙ both) in
          let within : i < length ks = slice_get_within ks i q e in
          absurd (omega arith)
      by_test false h =
          let whole : new q ≡ cond (nat_eq k q) None (old q) = is q in
          let put : new q ≡ old q = rw h at whole in
          put ∙ here

  -- the last key goes
  pub places_less : HasPlaces (ks ++ k ∷ []) old → ((q : ℕ) → new q ≡ cond (nat_eq k q) None (old q)) → HasPlaces ks new
  places_less has is = record { stands = less_stand has is; found = less_found has is }

-- ---- copies

pub pairs_same : {A B : Type 0} (xs ys : List (A × B)) → AllZip (λ p q. (q.0 ≡ p.0) × (q.1 ≡ p.1)) xs ys → ys ≡ xs
pairs_same [] [] e = refl
pairs_same [] (y ∷ ys) e = absurd e
pairs_same (x ∷ xs) [] e = absurd e
pairs_same (x ∷ xs) (y ∷ ys) e = λ i. (e.0.0 i, e.0.1 i) ∷ pairs_same xs ys e.1 i
