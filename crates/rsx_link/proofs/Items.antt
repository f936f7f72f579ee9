-- Items among signals, and the answer to a bad request.
use Rattle.std.proofs.Common.{◌≡◌, ℕ, ◌+◌, ne_eqb, Bool, true, false, cond, List, [], ◌∷◌, ◌++◌, length, inl, inr, Some, None, sym, ap, ◌∙◌, arith}
use mathlib.Core.List.{IsPrefix}
use Rattle.rsx_types.specs.declared.signal.Signal.{Signal}
use Rattle.rsx_types.specs.declared.signal.Signal.TheVariants.{Error}
use Rattle.rsx_types.specs.declared.signal.Cause.TheVariants.{NonPositiveRequest}
use Rattle.rsx_link.specs.Ends.{OffersNone, asked_total, items_taken, refusal_at}
use Rattle.rsx_link.specs.Signals.{is_item, items_in}
use Rattle.rsx_link.specs.declared.down.Down.{Down}

module _ {T : Type 0} where
  -- one signal more
  pushed : (ss : List (Signal T)) (s : Signal T) → items_in (ss ++ s ∷ []) ≡ items_in ss + cond (is_item s) 1 0
  pushed [] s = omega arith
  pushed (x ∷ xs) s = let h = pushed xs s in omega arith

  pub pushed_item : (all ss : List (Signal T)) (s : Signal T) → all ≡ ss ++ s ∷ [] → is_item s ≡ true → items_in all ≡ items_in ss + 1
  pushed_item all ss s e i = ap items_in e ∙ pushed ss s ∙ ap (λ b. items_in ss + cond b 1 0) i

  pub pushed_ending : (all ss : List (Signal T)) (s : Signal T) → all ≡ ss ++ s ∷ [] → is_item s ≡ false → items_in all ≡ items_in ss
  pushed_ending all ss s e i = let h = ap items_in e ∙ pushed ss s ∙ ap (λ b. items_in ss + cond b 1 0) i in omega arith

  -- the signal that was seen in front is the one that is there
  pub same_front : (a b : Signal T) (l m : List (Signal T)) → IsPrefix (a ∷ []) l → l ≡ b ∷ m → a ≡ b
  same_front a b l m (rest, e) is = cc

  pub no_refusal : (found : ℕ) → (found ≡ 0 → ⊥) → None ≡ refusal_at {T = T} found
  no_refusal found h = ap (λ (b : Bool). cond b (Some (Error NonPositiveRequest)) None) (sym (ne_eqb found 0 h))

  -- ---- no item is there to be taken

  pub none_seen : (d : Down T) (ss : List (Signal T)) → length ss ≡ 0 → OffersNone d ss
  none_seen d [] e = tt
  none_seen d (s ∷ ss) e = cc

  pub none_asked : (d : Down T) (ss : List (Signal T)) → items_taken d ≡ asked_total d → OffersNone d ss
  none_asked d [] e = tt
  none_asked d (s ∷ ss) e = inr e

  pub ending_seen : (d : Down T) (s : Signal T) (ss : List (Signal T)) → IsPrefix (s ∷ []) ss → is_item s ≡ false → OffersNone d ss
  ending_seen d s [] (rest, e) is = cc
  ending_seen d s (t ∷ ss) (rest, e) is = let same : s ≡ t = cc in inl (ap is_item (sym same) ∙ is)
