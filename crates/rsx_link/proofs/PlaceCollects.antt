-- What the collector knows of itself, kept by each look.
use Rattle.std.proofs.Common.{◌≡◌, ℕ, zero, suc, ◌<◌, Bool, true, false, is_some, cond, eq-eqb, ne_eqb, List, [], ◌∷◌, ◌++◌, get_or, length, set, Option, Some, None, refl, sym, ap, ◌∙◌, arith}
use Rattle.std.proofs.lemmas.List.{length-set, get_or-set_same, get_or-set_other}
use mathlib.Core.Logic.{dite}
use native.Mathlib.Decide.{ℕ_discrete}
use Rattle.rsx_link.specs.declared.place.PlaceStep.{PlaceStep}
use Rattle.rsx_link.specs.declared.place.PlaceStep.TheVariants.{Miss, Collect}
use Rattle.rsx_link.specs.declared.place.PlaceView.{PlaceView}
use Rattle.rsx_link.specs.Link.{total}
use Rattle.rsx_link.specs.PlaceSteps.{ticket_of, offers_at, collect_of, collects_at, found_in, number_of, or_else, flat}
use Rattle.rsx_link.specs.Places.{more, count_in}
use Rattle.rsx_link.specs.Collected.{is_collected, missed_below}

module _ {P : Type 0} where
  collected_miss : (j k : ℕ) (b : Bool) (steps : List (PlaceStep P)) → is_collected j (cond b steps (Miss k ∷ steps)) ≡ is_collected j steps
  collected_miss j k true steps = refl
  collected_miss j k false steps = refl

  -- looks collect nothing
  pub still_collected : (j k : ℕ) (steps : List (PlaceStep P)) → is_collected j (missed_below k steps) ≡ is_collected j steps
  still_collected j zero steps = refl
  still_collected j (suc k) steps = collected_miss j k (is_collected k (missed_below k steps)) (missed_below k steps) ∙ still_collected j k steps

  none_found : (k : ℕ) (steps : List (PlaceStep P)) → is_collected k steps ≡ false → total (collects_at k) (steps ++ []) ≡ 0
  none_found k [] e = refl
  none_found k (x ∷ xs) e = let h = none_here (collect_of k x) (found_in (collect_of k) xs) e in let rest = none_found k xs h.1 in let here = h.0 in omega arith
    where
      none_here : (p q : Option P) → is_some (or_else p q) ≡ false → (number_of p ≡ 0) × (is_some q ≡ false)
      none_here None q e = (refl, e)
      none_here (Some p) q e = absurd (cc)

  -- who has no list beside its own
  pub not_collected : {E : Type 0} (k : ℕ) (v : PlaceView E P) → v.beside ≡ [] → is_collected k v.steps ≡ false → count_in (collects_at k) v ≡ 0
  not_collected k v alone e = ap (λ ls. total (collects_at k) (v.steps ++ flat ls)) alone ∙ none_found k v.steps e

  -- looks draw and offer nothing
  pub draws_none : {E : Type 0} (k : ℕ) (x : PlaceStep P) (v w : PlaceView E P) → ticket_of k x ≡ 0 → offers_at k x ≡ 0 → w ≡ more v x
      → (count_in (ticket_of k) v ≡ 0) × (count_in (offers_at k) v ≡ 0) → (count_in (ticket_of k) w ≡ 0) × (count_in (offers_at k) w ≡ 0)
  draws_none k x v w t o is h = let one = ap (count_in (ticket_of k)) is in let two = ap (count_in (offers_at k)) is in let a = h.0 in let b = h.1 in (omega arith, omega arith)

  -- what the collector keeps of the places is told by its steps
  pub tells_more : (taken : List Bool) (at : ℕ) (part : P) (steps : List (PlaceStep P)) → at < length taken → ((k : ℕ) → k < length taken → get_or taken k false ≡ is_collected k steps)
      → (k : ℕ) → k < length (set taken at true) → get_or (set taken at true) k false ≡ is_collected k (Collect at part ∷ steps)
  tells_more taken at part steps within tells k lt = dite (ℕ_discrete k at)
      (λ e. ap (λ (j : ℕ). get_or (set taken at true) j false) e ∙ get_or-set_same taken at true false within
      ∙ sym (ap (λ b. is_some (or_else (cond {A = Option P} b (Some part) None) (found_in (collect_of k) steps))) (eq-eqb at k (sym e))))
      (λ ne. get_or-set_other taken at k true false ne ∙ tells k (let same = length-set taken at true in omega arith)
      ∙ sym (ap (λ b. is_some (or_else (cond {A = Option P} b (Some part) None) (found_in (collect_of k) steps))) (ne_eqb at k (λ e. ne (sym e)))))
