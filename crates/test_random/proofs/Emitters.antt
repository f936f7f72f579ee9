-- Emitters that stand no more with the others, and links that are named by their numbers.
use Rattle.std.specs.Prelude.{⊤}
use Rattle.std.specs.Option.{option_to_list}
use Rattle.std.proofs.Common.{◌≡◌, ℕ, zero, suc, List, [], ◌∷◌, ◌++◌, Option, Some, None, IfSome, length, slice_get, refl, sym, ap, ◌∙◌, subst, arith}
use Rattle.std.proofs.lemmas.Option.{slice_get_within}
use Rattle.rsx_link.specs.Ends.{IsUpOf}
use Rattle.rsx_link.specs.declared.link.Link.{Link}
use Rattle.rsx_runtime.specs.declared.emitter.Emitter.{Emitter}
use Rattle.rsx_serialized.specs.Calls.{IsAt}
use Rattle.rsx_serialized.proofs.Lists.{there}
use Rattle.test_random.specs.Returned.{Along}
use Rattle.test_random.specs.Ends.{AreEmittersOf, IsEmitterOf}

module _ {X : Type 0} where
  -- what stands behind the others
  at_last : (front : List X) (x : X) → slice_get (front ++ x ∷ []) (length front) ≡ Some x
  at_last [] x = refl
  at_last (y ∷ front) x = at_last front x

  -- the others stand where they stood
  at_front : (front more : List X) (x : X) (k : ℕ) → slice_get front k ≡ Some x → slice_get (front ++ more) k ≡ Some x
  at_front [] more x k at = cc
  at_front (y ∷ front) more x zero at = at
  at_front (y ∷ front) more x (suc k) at = at_front front more x k at

module _ {T : Type 0} (links : List (Link T)) where
  -- emitters that stand at the places of their links have these
  pub each_emitter : (es : List (Emitter T)) → Along links es (λ k l e. (e.link ≡ k) × IsUpOf l e.up) → AreEmittersOf links es
  each_emitter es h k e at =
      let within = slice_get_within es k e at in
      let long = h.count in
      let l = there links k (omega (arith, within, long)) in
      let own = h.each k l.0 e l.1 at in
      (l.0, ap (slice_get links) own.0 ∙ l.1, own.1)

  module _ (old new : List (Emitter T)) (last : Option (Emitter T)) (is : old ≡ new ++ option_to_list last) (all : AreEmittersOf links old) where
    -- the others have theirs still
    pub others : AreEmittersOf links new
    others k e at = all k e (subst (λ (l : List (Emitter T)). slice_get l k ≡ Some e) (sym is) (at_front new (option_to_list last) e k at))

  -- and so has the last one
  pub last_one : (old new : List (Emitter T)) (last : Option (Emitter T)) → old ≡ new ++ option_to_list last → AreEmittersOf links old → IfSome last (IsEmitterOf links)
  last_one old new None is all = tt
  last_one old new (Some e) is all = all (length new) e (subst (λ (l : List (Emitter T)). slice_get l (length new) ≡ Some e) (sym is) (at_last new e))
