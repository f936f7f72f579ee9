-- Positions of a list that is longer by one event.
use Rattle.std.proofs.Common.{◌≡◌, ℕ, zero, suc, ◌<◌, ◌⊎◌, inl, inr, Bool, true, false, ◌&&◌, List, [], ◌∷◌, ◌++◌, length, refl, ap, ◌∙◌, arith, Some, IsTrue, slice_get}
use Rattle.std.specs.Prelude.{MatchBool}
use Rattle.std.proofs.lemmas.Bool.{eq-eqb, ne_eqb}
use Rattle.std.proofs.lemmas.Option.{slice_get_within}
use Rattle.rsx_tck.specs.declared.event.Event.{Event}
use Rattle.rsx_tck.specs.declared.event.Stamped.{Stamped}
use Rattle.rsx_tck.specs.Events.{of, subscriber_of}
use Rattle.rsx_tck.specs.Sentences.{At}
use Rattle.rsx_tck.specs.Passes.{Stands}

pub slice_get-old : {X : Type 0} (t u : List X) (i : ℕ) (x : X) → slice_get t i ≡ Some x → slice_get (t ++ u) i ≡ Some x
slice_get-old [] u i x h = absurd (cc)
slice_get-old (y ∷ t) u zero x h = h
slice_get-old (y ∷ t) u (suc i) x h = slice_get-old t u i x h

pub slice_get-new : {X : Type 0} (t : List X) (e : X) → slice_get (t ++ e ∷ []) (length t) ≡ Some e
slice_get-new [] e = refl
slice_get-new (y ∷ t) e = slice_get-new t e

pub slice_get-cases : {X : Type 0} (t : List X) (e : X) (i : ℕ) (x : X) → slice_get (t ++ e ∷ []) i ≡ Some x →
    (slice_get t i ≡ Some x) ⊎ ((i ≡ length t) × (e ≡ x))
slice_get-cases [] e zero x h = inr (refl, cc)
slice_get-cases [] e (suc i) x h = absurd (cc)
slice_get-cases (y ∷ t) e zero x h = inl h
slice_get-cases (y ∷ t) e (suc i) x h =
    elim (slice_get-cases t e i x h) [ inl f ↦ inl f | inr (n, f) ↦ inr (ap suc n, f) ]

pub at-none : (p : Stamped → Bool) (i : ℕ) → At p [] i → ⊥
at-none p i (x, f, g) = absurd (cc)

pub at-below : (p : Stamped → Bool) (t : List Stamped) (i : ℕ) → At p t i → i < length t
at-below p t i (x, f, g) = slice_get_within t i x f

pub at-old : (p : Stamped → Bool) (t : List Stamped) (e : Stamped) (i : ℕ) → At p t i → At p (t ++ e ∷ []) i
at-old p t e i (x, f, g) = (x, slice_get-old t (e ∷ []) i x f, g)

pub at-new : (p : Stamped → Bool) (t : List Stamped) (e : Stamped) → IsTrue (p e) → At p (t ++ e ∷ []) (length t)
at-new p t e g = (e, slice_get-new t e, g)

pub at-cases : (p : Stamped → Bool) (t : List Stamped) (e : Stamped) (i : ℕ) → At p (t ++ e ∷ []) i →
    (At p t i) ⊎ ((i ≡ length t) × IsTrue (p e))
at-cases p t e i (x, f, g) = elim (slice_get-cases t e i x f) [
  | inl h ↦ inl (x, h, g)
  | inr (n, h) ↦ inr (n, ap p h ∙ g)
]

pub at-back : (p : Stamped → Bool) (t : List Stamped) (e : Stamped) (i : ℕ) → At p (t ++ e ∷ []) i → i < length t → At p t i
at-back p t e i a lt = elim (at-cases p t e i a) [ inl b ↦ b | inr (n, g) ↦ absurd (omega arith) ]

pub at-here : (p : Stamped → Bool) (t : List Stamped) (e : Stamped) → At p (t ++ e ∷ []) (length t) → IsTrue (p e)
at-here p t e a = elim (at-cases p t e (length t) a)
    [ inl b ↦ (let lt = at-below p t (length t) b in absurd (omega arith)) | inr (n, g) ↦ g ]

-- no position stands past the last
pub at-last : (p : Stamped → Bool) (t : List Stamped) (e : Stamped) (k : ℕ) → length t < k → At p (t ++ e ∷ []) k → ⊥
at-last p t e k lt a = elim (at-cases p t e k a)
    [ inl b ↦ (let below = at-below p t k b in omega arith) | inr (n, g) ↦ omega arith ]

pub stands-cases : (p : Stamped → Bool) (t : List Stamped) (e : Stamped) → Stands p (t ++ e ∷ []) → (Stands p t) ⊎ IsTrue (p e)
stands-cases p t e (i, a) = elim (at-cases p t e i a) [ inl b ↦ inl (i, b) | inr (n, g) ↦ inr g ]

pub stands-old : (p : Stamped → Bool) (t : List Stamped) (e : Stamped) → Stands p t → Stands p (t ++ e ∷ [])
stands-old p t e (i, a) = (i, at-old p t e i a)

-- an event of the subscriber is a p exactly where its kind is, and one of another subscriber is none
pub of-same : (s : ℕ) (kind : Event → Bool) (e : Stamped) → subscriber_of e.event ≡ s → of s kind e ≡ kind e.event
of-same s kind e h = ap (λ b. b && kind e.event) (eq-eqb (subscriber_of e.event) s h)

pub of-other : (s : ℕ) (kind : Event → Bool) (e : Stamped) → (subscriber_of e.event ≡ s → ⊥) → of s kind e ≡ false
of-other s kind e h = ap (λ b. b && kind e.event) (ne_eqb (subscriber_of e.event) s h)

-- a step's promise, by what its effect says
pub match_bool : (b : Bool) (A B : Type 0) → (b ≡ true → A) → (b ≡ false → B) → MatchBool b A B
match_bool true A B f g = f refl
match_bool false A B f g = g refl
