-- The sentences on what stands while a signal is in progress.
use Rattle.std.proofs.Common.{◌≡◌, ◌≢◌, ℕ, ◌⊎◌, inl, inr, Bool, true, false, ◌&&◌, ◌==◌, List, [], ◌∷◌, ◌++◌, length, refl, sym, ap, ◌∙◌, subst, arith, IsTrue, Option, Some, None}
use Rattle.std.specs.Prelude.{is_some, if◌then◌else◌}
use Rattle.std.proofs.Math.Bool.{and-true}
use Rattle.std.proofs.lemmas.Bool.{and_left, and_right, cases_eq, eq-eqb, ne_eqb, eqb-true}
use Rattle.rsx_tck.specs.declared.event.Event.{Event}
use Rattle.rsx_tck.specs.declared.event.Stamped.{Stamped}
use Rattle.rsx_tck.specs.declared.pass.Effect.{Effect}
use Rattle.rsx_tck.specs.Events.{of, of_on, subscriber_of, is_signal, is_exit}
use Rattle.rsx_tck.specs.Sentences.{NoneUntil}
use Rattle.rsx_tck.specs.Passes.{Judges, is_breach, IsOpen, KnowsSignal, next_signal}
use Rattle.rsx_tck.specs.Laws.Positions.{at-none, at-below, at-old, at-new, at-cases, at-back, at-last, of-same, of-other, match_bool}

-- one that is open, as the trace goes on
pub open-none : (p x : Stamped → Bool) → ¬ IsOpen p x []
open-none p x (i, a, after) = at-none p i a

pub open-new : (p x : Stamped → Bool) (t : List Stamped) (e : Stamped) → IsTrue (p e) → IsOpen p x (t ++ e ∷ [])
open-new p x t e new = (length t, at-new p t e new, (λ k lt b. at-last x t e k lt b))

pub open-old : (p x : Stamped → Bool) (t : List Stamped) (e : Stamped) → x e ≡ false → IsOpen p x t → IsOpen p x (t ++ e ∷ [])
open-old p x t e h (i, a, after) = (
  i,
  at-old p t e i a,
  (λ k lt b. elim (at-cases x t e k b) [ inl old ↦ after k lt old | inr (n, new) ↦ absurd (cc) ]),
)

pub open-cases : (p x : Stamped → Bool) (t : List Stamped) (e : Stamped) → IsOpen p x (t ++ e ∷ []) →
    (IsTrue (p e)) ⊎ (IsOpen p x t × (x e ≡ true → ⊥))
open-cases p x t e (i, a, after) = elim (at-cases p t e i a) [
  | inl old ↦ inr (
    (i, old, (λ k lt b. after k lt (at-old x t e k b))),
    (λ new. after (length t) (at-below p t i old) (at-new x t e new)),
  )
  | inr (n, new) ↦ inl new
]

-- between a p and the next x no q, as the trace goes on
pub none_until-none : (p x q : Stamped → Bool) → NoneUntil p x q []
none_until-none p x q i j lt a between b = at-none q j b

pub none_until-more : (p x q : Stamped → Bool) (t : List Stamped) (e : Stamped) → NoneUntil p x q t →
    (IsTrue (q e) → ¬ IsOpen p x t) → NoneUntil p x q (t ++ e ∷ [])
none_until-more p x q t e keeps fine i j lt a between b = elim (at-cases q t e j b) [
  | inl old ↦ (let below = at-below q t j old in
      keeps i j lt (at-back p t e i a (omega arith)) (λ k l m c. between k l m (at-old x t e k c)) old)
  | inr (n, new) ↦ fine new (
    i,
    at-back p t e i a (omega arith),
    (λ k l c. let below = at-below x t k c in between k l (omega arith) (at-old x t e k c)),
  )
]

pub none_until-stops : (p x q : Stamped → Bool) (t : List Stamped) (e : Stamped) → IsTrue (q e) → IsOpen p x t →
    ¬ NoneUntil p x q (t ++ e ∷ [])
none_until-stops p x q t e new (i, a, after) keeps =
    keeps i (length t) (at-below p t i a) (at-old p t e i a) (λ k l m c. after k l (at-back x t e k c m)) (at-new q t e new)

-- kinds of events on one worker
pub on-same : (s w : ℕ) (kind : Event → Bool) (e : Stamped) → subscriber_of e.event ≡ s → e.worker ≡ w → of_on s w kind e ≡ kind e.event
on-same s w kind e same here =
    ap (λ b. of s kind e && b) (eq-eqb e.worker w here) ∙ and-true (of s kind e) ∙ of-same s kind e same

pub on-elsewhere : (s w : ℕ) (kind : Event → Bool) (e : Stamped) → (e.worker ≡ w → ⊥) → of_on s w kind e ≡ false
on-elsewhere s w kind e elsewhere = and_right (of s kind e) (e.worker == w) (ne_eqb e.worker w elsewhere)

pub on-isnt : (s w : ℕ) (kind : Event → Bool) (e : Stamped) → of s kind e ≡ false → of_on s w kind e ≡ false
on-isnt s w kind e isnt = and_left (of s kind e) (e.worker == w) isnt

-- the signals of 1.3: one may be in progress
begins : (s : ℕ) (t : List Stamped) (e : Stamped) → subscriber_of e.event ≡ s → is_signal e.event ≡ true → KnowsSignal None s t →
    KnowsSignal (Some e.worker) s (t ++ e ∷ [])
begins s t e same signal none = (
  open-new (of_on s e.worker is_signal) (of_on s e.worker is_exit) t e (on-same s e.worker is_signal e same refl ∙ signal),
  (λ w ne found. elim (open-cases (of_on s w is_signal) (of_on s w is_exit) t e found) [
    | inl new ↦ absurd (let isnt = on-elsewhere s w is_signal e (λ h. ne (sym h)) in cc)
    | inr (old, ne') ↦ none w old
  ]),
)

-- no signal begins, and the one in progress doesn't end
goes_on : (s : ℕ) (t : List Stamped) (e : Stamped) (state : Option ℕ) → of s is_signal e ≡ false →
    ((v : ℕ) → state ≡ Some v → of_on s v is_exit e ≡ false) → KnowsSignal state s t → KnowsSignal state s (t ++ e ∷ [])
goes_on s t e None isnt stays none = λ w found. elim (open-cases (of_on s w is_signal) (of_on s w is_exit) t e found)
    [ inl new ↦ absurd (let other = on-isnt s w is_signal e isnt in cc) | inr (old, ne) ↦ none w old ]
goes_on s t e (Some v) isnt stays (running, none) = (
  open-old (of_on s v is_signal) (of_on s v is_exit) t e (stays v refl) running,
  (λ w ne found. elim (open-cases (of_on s w is_signal) (of_on s w is_exit) t e found)
      [ inl new ↦ absurd (let other = on-isnt s w is_signal e isnt in cc) | inr (old, ne') ↦ none w ne old ]),
)

ends : (s v : ℕ) (t : List Stamped) (e : Stamped) → subscriber_of e.event ≡ s → e.worker ≡ v → is_signal e.event ≡ false → is_exit e.event ≡ true →
    KnowsSignal (Some v) s t → KnowsSignal None s (t ++ e ∷ [])
ends s v t e same here isnt exit (running, none) = λ w found.
    elim (open-cases (of_on s w is_signal) (of_on s w is_exit) t e found) [
      | inl new ↦ absurd (let other = on-isnt s w is_signal e (of-same s is_signal e same ∙ isnt) in cc)
      | inr (old, ne) ↦ elim (cases_eq w v) [
        | inl is ↦ ne (on-same s w is_exit e same (here ∙ sym is) ∙ exit)
        | inr apart ↦ none w apart old
      ]
    ]

abbrev pub Apart : ℕ → List Stamped → Type 0
Apart s t = (w : ℕ) → NoneUntil (of_on s w is_signal) (of_on s w is_exit) (of s is_signal) t

apart_on : (s : ℕ) (t : List Stamped) (e : Stamped) → of s is_signal e ≡ false → Apart s t → Apart s (t ++ e ∷ [])
apart_on s t e isnt keeps w =
    none_until-more (of_on s w is_signal) (of_on s w is_exit) (of s is_signal) t e (keeps w) (λ new. absurd (cc))

signal_idle : (s : ℕ) (t : List Stamped) (e : Stamped) → subscriber_of e.event ≡ s → (signal exit : Bool) → is_signal e.event ≡ signal →
    KnowsSignal None s t → Apart s t →
    KnowsSignal (next_signal signal exit e.worker None) s (t ++ e ∷ []) × Apart s (t ++ e ∷ [])
signal_idle s t e same true exit h none keeps = (
  begins s t e same h none,
  (λ w. none_until-more (of_on s w is_signal) (of_on s w is_exit) (of s is_signal) t e (keeps w) (λ new. none w)),
)
signal_idle s t e same false exit h none keeps = (
  goes_on s t e None (of-same s is_signal e same ∙ h) (λ v g. absurd (cc)) none,
  apart_on s t e (of-same s is_signal e same ∙ h) keeps,
)

signal_running : (s v : ℕ) (t : List Stamped) (e : Stamped) → subscriber_of e.event ≡ s → (exit here : Bool) → is_signal e.event ≡ false →
    is_exit e.event ≡ exit → (e.worker == v) ≡ here → KnowsSignal (Some v) s t → Apart s t →
    KnowsSignal (if exit && here then None else Some v) s (t ++ e ∷ []) × Apart s (t ++ e ∷ [])
signal_running s v t e same true true isnt h g knows keeps = (
  ends s v t e same (eqb-true e.worker v g) isnt h knows,
  apart_on s t e (of-same s is_signal e same ∙ isnt) keeps,
)
signal_running s v t e same true false isnt h g knows keeps = (
  goes_on s t e (Some v) (of-same s is_signal e same ∙ isnt)
      (λ u f. let is : v ≡ u = cc in ap (λ b. of s is_exit e && b) (ap (λ n. e.worker == n) (sym is) ∙ g) ∙ and_right (of s is_exit e) false refl)
      knows,
  apart_on s t e (of-same s is_signal e same ∙ isnt) keeps,
)
signal_running s v t e same false here isnt h g knows keeps = (
  goes_on s t e (Some v) (of-same s is_signal e same ∙ isnt)
      (λ u f. on-isnt s u is_exit e (of-same s is_exit e same ∙ h))
      knows,
  apart_on s t e (of-same s is_signal e same ∙ isnt) keeps,
)

signal_fine : (s : ℕ) (t : List Stamped) (e : Stamped) (state : Option ℕ) → subscriber_of e.event ≡ s →
    (is_some state && is_signal e.event) ≡ false → KnowsSignal state s t → Apart s t →
    KnowsSignal (next_signal (is_signal e.event) (is_exit e.event) e.worker state) s (t ++ e ∷ []) × Apart s (t ++ e ∷ [])
signal_fine s t e None same h knows keeps = signal_idle s t e same (is_signal e.event) (is_exit e.event) refl knows keeps
signal_fine s t e (Some v) same h knows keeps =
    signal_running s v t e same (is_exit e.event) (e.worker == v) h refl refl knows keeps

signal_wrong : (s : ℕ) (t : List Stamped) (e : Stamped) (state : Option ℕ) → subscriber_of e.event ≡ s →
    (is_some state && is_signal e.event) ≡ true → KnowsSignal state s t → ¬ Apart s (t ++ e ∷ [])
signal_wrong s t e None same h knows keeps = absurd (cc)
signal_wrong s t e (Some v) same h (running, none) keeps =
    none_until-stops (of_on s v is_signal) (of_on s v is_exit) (of s is_signal) t e (of-same s is_signal e same ∙ h) running (keeps v)

pub signal-step : (s : ℕ) (e : Stamped) (state state' : Option ℕ) (effect : Effect) → subscriber_of e.event ≡ s →
    state' ≡ next_signal (is_signal e.event) (is_exit e.event) e.worker state →
    is_breach effect ≡ (is_some state && is_signal e.event) →
    Judges (Apart s) (KnowsSignal state s) (KnowsSignal state' s) e effect
signal-step s e state state' effect same moves breach past knows keeps =
    match_bool (is_breach effect) _ _
    (λ h. signal_wrong s past e state same (sym breach ∙ h) knows)
    (λ h. let on = signal_fine s past e state same (sym breach ∙ h) knows keeps in
    (subst (λ x. KnowsSignal x s (past ++ e ∷ [])) (sym moves) on.0, on.1))

pub apart-none : (s : ℕ) → Apart s []
apart-none s w = none_until-none (of_on s w is_signal) (of_on s w is_exit) (of s is_signal)

pub apart-other : (s : ℕ) (t : List Stamped) (e : Stamped) → subscriber_of e.event ≢ s → Apart s t → Apart s (t ++ e ∷ [])
apart-other s t e ne keeps = apart_on s t e (of-other s is_signal e ne) keeps

pub knows_signal-none : (s : ℕ) → KnowsSignal None s []
knows_signal-none s w = open-none (of_on s w is_signal) (of_on s w is_exit)

pub knows_signal-other : (state : Option ℕ) (s : ℕ) (t : List Stamped) (e : Stamped) → subscriber_of e.event ≢ s →
    KnowsSignal state s t → KnowsSignal state s (t ++ e ∷ [])
knows_signal-other state s t e ne knows =
    goes_on s t e state (of-other s is_signal e ne) (λ v h. on-isnt s v is_exit e (of-other s is_exit e ne)) knows
