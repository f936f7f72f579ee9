-- The sentences that need one flag: what stands after an event, and what stands before one.
use Rattle.std.proofs.Common.{◌≡◌, ◌≢◌, ℕ, ◌<◌, inl, inr, Bool, true, false, not, ◌&&◌, ◌||◌, List, [], ◌∷◌, ◌++◌, length, refl, sym, ap, ◌∙◌, arith, IsTrue}
use Rattle.std.proofs.Math.Bool.{or-true}
use Rattle.std.proofs.lemmas.Bool.{and_parts, and_from, or_cases, not-true}
use Rattle.rsx_tck.specs.declared.event.Event.{Event}
use Rattle.rsx_tck.specs.declared.event.Stamped.{Stamped}
use Rattle.rsx_tck.specs.declared.pass.Effect.{Effect}
use Rattle.rsx_tck.specs.Events.{of, subscriber_of}
use Rattle.rsx_tck.specs.Sentences.{NoneAfter, EachAfter}
use Rattle.rsx_tck.specs.Passes.{Stands, Tells, Judges, is_breach}
use Rattle.rsx_tck.specs.Laws.Positions.{at-none, at-below, at-old, at-new, at-cases, at-back, of-same, of-other, match_bool}

unflagged : (flag asked : Bool) → (not flag && asked) ≡ false → asked ≡ true → flag ≡ true
unflagged true asked h g = refl
unflagged false asked h g = absurd (cc)

or-false : (b : Bool) → (b || false) ≡ b
or-false true = refl
or-false false = refl

-- nothing stands in an empty list
pub tells-none : (p : Stamped → Bool) → Tells false p []
tells-none p = ((λ h. absurd (cc)), (λ (i, a). absurd (at-none p i a)))

-- a flag goes on by one event
pub tells-more : (p : Stamped → Bool) (t : List Stamped) (e : Stamped) (flag flag' : Bool) → Tells flag p t →
    flag' ≡ (flag || p e) → Tells flag' p (t ++ e ∷ [])
tells-more p t e flag flag' (to, from) h = (
  (λ f. elim (or_cases flag (p e) (sym h ∙ f)) [
    | inl old ↦ ((to old).0, at-old p t e _ (to old).1)
    | inr new ↦ (length t, at-new p t e new)
  ]),
  (λ (i, a). elim (at-cases p t e i a) [
    | inl old ↦ h ∙ ap (λ b. b || p e) (from (i, old))
    | inr (n, new) ↦ h ∙ ap (λ b. flag || b) new ∙ or-true flag
  ]),
)

pub tells-other : (kind : Event → Bool) (s : ℕ) (t : List Stamped) (e : Stamped) (flag : Bool) →
    subscriber_of e.event ≢ s → Tells flag (of s kind) t → Tells flag (of s kind) (t ++ e ∷ [])
tells-other kind s t e flag ne h =
    tells-more (of s kind) t e flag flag h (sym (ap (λ b. flag || b) (of-other s kind e ne) ∙ or-false flag))

pub tells-same : (kind : Event → Bool) (s : ℕ) (t : List Stamped) (e : Stamped) (flag flag' : Bool) →
    subscriber_of e.event ≡ s → flag' ≡ (flag || kind e.event) → Tells flag (of s kind) t →
    Tells flag' (of s kind) (t ++ e ∷ [])
tells-same kind s t e flag flag' same h tells =
    tells-more (of s kind) t e flag flag' tells (h ∙ ap (λ b. flag || b) (sym (of-same s kind e same)))

-- no q after a p
pub none_after-none : (p q : Stamped → Bool) → NoneAfter p q []
none_after-none p q i j lt a b = at-none p i a

pub none_after-more : (p q : Stamped → Bool) (t : List Stamped) (e : Stamped) → NoneAfter p q t →
    (IsTrue (q e) → ¬ Stands p t) → NoneAfter p q (t ++ e ∷ [])
none_after-more p q t e keeps fine i j lt a b = elim (at-cases q t e j b) [
  | inl old ↦ (let below : j < length t = at-below q t j old in keeps i j lt (at-back p t e i a (omega arith)) old)
  | inr (n, new) ↦ fine new (i, at-back p t e i a (omega arith))
]

pub none_after-stops : (p q : Stamped → Bool) (t : List Stamped) (e : Stamped) → IsTrue (q e) → Stands p t →
    ¬ NoneAfter p q (t ++ e ∷ [])
none_after-stops p q t e new (i, a) keeps =
    keeps i (length t) (at-below p t i a) (at-old p t e i a) (at-new q t e new)

pub none_after-other : (p q : Event → Bool) (s : ℕ) (t : List Stamped) (e : Stamped) →
    subscriber_of e.event ≢ s → NoneAfter (of s p) (of s q) t → NoneAfter (of s p) (of s q) (t ++ e ∷ [])
none_after-other p q s t e ne keeps =
    none_after-more (of s p) (of s q) t e keeps (λ new. absurd (let f = of-other s q e ne in cc))

pub none_after-step : (p q : Event → Bool) (s : ℕ) (e : Stamped) (flag flag' : Bool) (effect : Effect) →
    subscriber_of e.event ≡ s → flag' ≡ (flag || p e.event) → is_breach effect ≡ (flag && q e.event) →
    Judges (NoneAfter (of s p) (of s q)) (Tells flag (of s p)) (Tells flag' (of s p)) e effect
none_after-step p q s e flag flag' effect same state breach past tells keeps =
    match_bool (is_breach effect) _ _
    (λ h. none_after-stops (of s p) (of s q) past e
    (of-same s q e same ∙ (and_parts flag (q e.event) (sym breach ∙ h)).1)
    (tells.0 (and_parts flag (q e.event) (sym breach ∙ h)).0))
    (λ h. (
      tells-same p s past e flag flag' same state tells,
      none_after-more (of s p) (of s q) past e keeps
          (λ new stands. absurd (let b = breach ∙ and_from flag (q e.event) (tells.1 stands) (sym (of-same s q e same) ∙ new) in cc)),
    ))

-- each q after a p
pub each_after-none : (p q : Stamped → Bool) → EachAfter p q []
each_after-none p q j b = absurd (at-none q j b)

pub each_after-more : (p q : Stamped → Bool) (t : List Stamped) (e : Stamped) → EachAfter p q t →
    (IsTrue (q e) → Stands p t) → EachAfter p q (t ++ e ∷ [])
each_after-more p q t e keeps fine j b = elim (at-cases q t e j b) [
  | inl old ↦ (let (h, lt, a) = keeps j old in (h, lt, at-old p t e h a))
  | inr (n, new) ↦ (let i = (fine new).0 in let a = (fine new).1 in let lt : i < length t = at-below p t i a in (i, omega arith, at-old p t e i a))
]

pub each_after-stops : (p q : Stamped → Bool) (t : List Stamped) (e : Stamped) → IsTrue (q e) → ¬ Stands p t →
    ¬ EachAfter p q (t ++ e ∷ [])
each_after-stops p q t e new none keeps =
    let before = keeps (length t) (at-new q t e new) in none (before.0, at-back p t e before.0 before.2 before.1)

pub each_after-other : (p q : Event → Bool) (s : ℕ) (t : List Stamped) (e : Stamped) →
    subscriber_of e.event ≢ s → EachAfter (of s p) (of s q) t → EachAfter (of s p) (of s q) (t ++ e ∷ [])
each_after-other p q s t e ne keeps =
    each_after-more (of s p) (of s q) t e keeps (λ new. absurd (let f = of-other s q e ne in cc))

pub each_after-step : (p q : Event → Bool) (s : ℕ) (e : Stamped) (flag flag' : Bool) (effect : Effect) →
    subscriber_of e.event ≡ s → flag' ≡ (flag || p e.event) → is_breach effect ≡ (not flag && q e.event) →
    Judges (EachAfter (of s p) (of s q)) (Tells flag (of s p)) (Tells flag' (of s p)) e effect
each_after-step p q s e flag flag' effect same state breach past tells keeps =
    match_bool (is_breach effect) _ _
    (λ h. each_after-stops (of s p) (of s q) past e
    (of-same s q e same ∙ (and_parts (not flag) (q e.event) (sym breach ∙ h)).1)
    (λ stands. absurd (let f = not-true flag (and_parts (not flag) (q e.event) (sym breach ∙ h)).0 in let g = tells.1 stands in cc)))
    (λ h. (
      tells-same p s past e flag flag' same state tells,
      each_after-more (of s p) (of s q) past e keeps
          (λ new. tells.0 (unflagged flag (q e.event) (sym breach ∙ h) (sym (of-same s q e same) ∙ new))),
    ))
