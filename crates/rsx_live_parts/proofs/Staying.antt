-- Subscriptions that stay as they are, since they may not go out.
use Rattle.std.proofs.Common.{◌≡◌, ◌||◌, Bool, true, false, List, [], ◌∷◌, ◌++◌, refl, sym, ◌∙◌, subst}
use Rattle.rsx_sources.specs.declared.machine.Machine.{Ghosts as Machine}
use Rattle.rsx_subscriber.specs.declared.subscription.Subscription.{Subscription}
use Rattle.rsx_live_parts.specs.Kept.{AllMustStay, MustStay, StaysOnly}
use Rattle.rsx_live_parts.specs.Outgoing.{MayGoOut}
use Rattle.rsx_live_parts.specs.declared.kept.Kept.{Kept}
use Rattle.rsx_live_parts.specs.declared.kept.Kept.TheVariants.{Here}
use Rattle.rsx_live_parts.specs.declared.kept.Parted.{Parted}
use Rattle.rsx_live_parts.specs.declared.outgoing.Stay.{Stay}
use Rattle.rsx_live_parts.specs.declared.outgoing.Stay.TheVariants.{NoMemory, Whole}

pub whole_else : (why : Stay) → (why ≡ NoMemory → ⊥) → why ≡ Whole
whole_else Whole other = refl
whole_else NoMemory other = absurd (other refl)

both_false : (x y : Bool) → (x || y) ≡ false → (x ≡ false) × (y ≡ false)
both_false true y e = cc
both_false false y e = (refl, e)

module _ {M T : Type 0} (b : Machine M T) where
  one_more : (ks : List (Kept M T)) (k : Kept M T) → AllMustStay b ks → MustStay b k → AllMustStay b (ks ++ k ∷ [])
  one_more [] k all one = (one, tt)
  one_more (k' ∷ ks) k all one = (all.0, one_more ks k all.1 one)

  -- where nothing changed
  pub stay_same : (p : Parted M T) → StaysOnly b p p
  stay_same p = record { before = λ e. e; stay = λ e h. h }

  -- one behind the other
  pub stay_more : (old mid new : Parted M T) → StaysOnly b old mid → StaysOnly b mid new → StaysOnly b old new
  stay_more old mid new one more = record { before = λ e. one.before (more.before e); stay = λ e h. more.stay e (one.stay (more.before e) h) }

  -- one stays for want of memory or of a number
  pub stay_refused : (old new : Parted M T) → new.refused ≡ true → StaysOnly b old new
  stay_refused old new is = record { before = λ e. absurd (both e); stay = λ e h. absurd (both e) }
    where
      both : new.refused ≡ false → ⊥
      both e = cc

  -- one has a piece
  pub stay_away : (old new : Parted M T) (k : Kept M T) → MustStay b k → new.refused ≡ old.refused → new.kept.items ≡ old.kept.items ++ k ∷ [] → StaysOnly b old new
  stay_away old new k must same put = record {
    before = λ e. sym same ∙ e;
    stay = λ e h. subst (λ (l : List (Kept M T)). AllMustStay b l) (sym put) (one_more old.kept.items k h must);
  }

  -- one stays as it is
  pub stay_here : (old new : Parted M T) (s : Subscription M T) (memory : Bool) → (memory ≡ false → MayGoOut b s → ⊥) → new.refused ≡ (old.refused || memory) → new.kept.items ≡ old.kept.items ++ Here s ∷ [] → StaysOnly b old new
  stay_here old new s memory must is put = record {
    before = λ e. (both_false old.refused memory (sym is ∙ e)).0;
    stay = λ e h. subst (λ (l : List (Kept M T)). AllMustStay b l) (sym put) (one_more old.kept.items (Here s) h (must (both_false old.refused memory (sym is ∙ e)).1));
  }

  pub all_stay : (old new : Parted M T) → old.kept.items ≡ [] → StaysOnly b old new → new.refused ≡ false → AllMustStay b new.kept.items
  all_stay old new none only e = only.stay e (subst (λ (l : List (Kept M T)). AllMustStay b l) (sym none) tt)
