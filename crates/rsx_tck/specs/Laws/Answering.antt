-- The sentence on bad requests and their answers.
use Rattle.std.proofs.Common.{◌≡◌, ◌≢◌, ℕ, ◌<◌, ◌⊎◌, inl, inr, Bool, true, false, not, ◌&&◌, ◌||◌, List, [], ◌∷◌, ◌++◌, length, refl, sym, ap, ◌∙◌, subst, arith, IsTrue}
use Rattle.std.proofs.Math.Bool.{or-true}
use Rattle.rsx_tck.specs.declared.event.Event.{Event}
use Rattle.rsx_tck.specs.declared.event.Event.TheVariants.{Subscribe, OnSubscribe, Next, Complete, Error, Exit, Request, Cancel, CancelNew}
use Rattle.rsx_tck.specs.declared.event.Stamped.{Stamped}
use Rattle.rsx_tck.specs.declared.pass.Effect.{Effect}
use Rattle.rsx_tck.specs.declared.answers.BadRequest.{BadRequest}
use Rattle.rsx_tck.specs.declared.answers.BadRequest.TheVariants.{NotYet, Unanswered, Settled}
use Rattle.rsx_tck.specs.Events.{of, subscriber_of, is_cancel, is_bad_request, is_cancel_or_ending, is_ending, is_bad_request_error}
use Rattle.rsx_tck.specs.Sentences.{At, NoneBefore, FirstIs}
use Rattle.rsx_tck.specs.Passes.{Stands, Judges, is_breach, IsUnanswered, KnowsAnswer, next_answer, is_unanswered}
use Rattle.rsx_tck.specs.Laws.Positions.{at-none, at-below, at-old, at-new, at-cases, at-back, at-here, at-last, stands-cases, stands-old, of-same, of-other, match_bool}

none_before-old : (c : Stamped → Bool) (t : List Stamped) (e : Stamped) (i : ℕ) → NoneBefore c (t ++ e ∷ []) i → NoneBefore c t i
none_before-old c t e i none h lt a = none h lt (at-old c t e h a)

none_before-more : (c : Stamped → Bool) (t : List Stamped) (e : Stamped) (i : ℕ) → i < length t → NoneBefore c t i → NoneBefore c (t ++ e ∷ []) i
none_before-more c t e i within none h lt a = none h lt (at-back c t e h a (omega arith))

unanswered-more : (p c q : Stamped → Bool) (t : List Stamped) (e : Stamped) (i : ℕ) → IsUnanswered p c q t i → q e ≡ false →
    IsUnanswered p c q (t ++ e ∷ []) i
unanswered-more p c q t e i (a, none, after) h = (
  at-old p t e i a,
  none_before-more c t e i (at-below p t i a) none,
  (λ j lt b. elim (at-cases q t e j b) [ inl old ↦ after j lt old | inr (n, new) ↦ absurd (cc) ]),
)

unanswered-cases : (p c q : Stamped → Bool) (t : List Stamped) (e : Stamped) (i : ℕ) → IsUnanswered p c q (t ++ e ∷ []) i →
    (IsUnanswered p c q t i × (q e ≡ true → ⊥)) ⊎ (IsTrue (p e) × (¬ Stands c t))
unanswered-cases p c q t e i (a, none, after) = elim (at-cases p t e i a) [
  | inl old ↦ inl (
    (old, none_before-old c t e i none, (λ j lt b. after j lt (at-old q t e j b))),
    (λ new. after (length t) (at-below p t i old) (at-new q t e new)),
  )
  | inr (n, new) ↦ inr (new, (λ (h, b). let lt = at-below c t h b in none h (omega arith) (at-old c t e h b)))
]

answered-more : (p c q r : Stamped → Bool) (t : List Stamped) (e : Stamped) → FirstIs p c q r t →
    (IsTrue (q e) → (i : ℕ) → IsUnanswered p c q t i → IsTrue (r e)) → FirstIs p c q r (t ++ e ∷ [])
answered-more p c q r t e keeps fine i j (lt, a, none, b, between) = elim (at-cases q t e j b) [
  | inl old ↦ (let below = at-below q t j old in
      at-old r t e j (keeps i j (
        lt,
        at-back p t e i a (omega arith),
        none_before-old c t e i none,
        old,
        (λ k l m x. between k l m (at-old q t e k x)),
      )))
  | inr (n, new) ↦ (let here = at-new r t e (fine new i (
    at-back p t e i a (omega arith),
    none_before-old c t e i none,
    (λ k l x. let below = at-below q t k x in between k l (omega arith) (at-old q t e k x)),
  )) in
      subst (At r (t ++ e ∷ [])) (sym n) here)
]

answered-stops : (p c q r : Stamped → Bool) (t : List Stamped) (e : Stamped) (i : ℕ) → IsTrue (q e) → r e ≡ false → IsUnanswered p c q t i →
    ¬ FirstIs p c q r (t ++ e ∷ [])
answered-stops p c q r t e i new wrong (a, none, after) keeps =
    let right = at-here r t e (keeps i (length t) (
      at-below p t i a,
      at-old p t e i a,
      none_before-more c t e i (at-below p t i a) none,
      at-new q t e new,
      (λ k l m x. after k l (at-back q t e k x m)),
    )) in
    absurd (cc)

-- one event more, of any kinds: p, c and q at it are the Booleans
not_yet : (p c q : Stamped → Bool) (t : List Stamped) (e : Stamped) → ¬ Stands p t → ¬ Stands c t → (bad settling ending : Bool) →
    p e ≡ bad → c e ≡ settling → KnowsAnswer p c q (next_answer bad settling ending NotYet) (t ++ e ∷ [])
not_yet p c q t e none_p none_c true settling ending h g = (
  length t,
  (at-new p t e h, (λ k lt a. none_c (k, at-back c t e k a lt)), (λ j lt b. at-last q t e j lt b)),
)
not_yet p c q t e none_p none_c false true ending h g = (
  (length t, at-new c t e g),
  (λ i un. elim (unanswered-cases p c q t e i un) [ inl (u, ne) ↦ none_p (i, u.0) | inr (new, none) ↦ absurd (cc) ]),
)
not_yet p c q t e none_p none_c false false ending h g = (
  (λ stands. elim (stands-cases p t e stands) [ inl old ↦ none_p old | inr new ↦ absurd (cc) ]),
  (λ stands. elim (stands-cases c t e stands) [ inl old ↦ none_c old | inr new ↦ absurd (cc) ]),
)

unanswered : (p c q : Stamped → Bool) (t : List Stamped) (e : Stamped) → (i : ℕ) × IsUnanswered p c q t i → (bad settling ending : Bool) →
    q e ≡ ending → (IsTrue (q e) → IsTrue (c e)) → (IsTrue (p e) → IsTrue (c e) → ⊥) →
    KnowsAnswer p c q (next_answer bad settling ending Unanswered) (t ++ e ∷ [])
unanswered p c q t e (i, un) bad settling true h settles apart = (
  (length t, at-new c t e (settles h)),
  (λ k un'. elim (unanswered-cases p c q t e k un') [ inl (u, ne) ↦ ne h | inr (new, none) ↦ apart new (settles h) ]),
)
unanswered p c q t e (i, un) bad settling false h settles apart = (i, unanswered-more p c q t e i un h)

settled : (p c q : Stamped → Bool) (t : List Stamped) (e : Stamped) → Stands c t → ((i : ℕ) → ¬ IsUnanswered p c q t i) →
    KnowsAnswer p c q Settled (t ++ e ∷ [])
settled p c q t e some none_un = (
  stands-old c t e some,
  (λ i un. elim (unanswered-cases p c q t e i un) [ inl (u, ne) ↦ none_un i u | inr (new, none) ↦ none some ]),
)

knows-more : (p c q : Stamped → Bool) (t : List Stamped) (e : Stamped) (state : BadRequest) →
    (IsTrue (q e) → IsTrue (c e)) → (IsTrue (p e) → IsTrue (c e) → ⊥) → KnowsAnswer p c q state t →
    KnowsAnswer p c q (next_answer (p e) (c e) (q e) state) (t ++ e ∷ [])
knows-more p c q t e NotYet settles apart (none_p, none_c) = not_yet p c q t e none_p none_c (p e) (c e) (q e) refl refl
knows-more p c q t e Unanswered settles apart un = unanswered p c q t e un (p e) (c e) (q e) refl settles apart
knows-more p c q t e Settled settles apart (some, none) = settled p c q t e some none

-- where the effect is no breach, an answer is the right one
fine_answer : (p c q : Stamped → Bool) (t : List Stamped) (state : BadRequest) (ending right : Bool) → KnowsAnswer p c q state t →
    (is_unanswered state && (ending && not right)) ≡ false → IsTrue ending → (i : ℕ) → IsUnanswered p c q t i → IsTrue right
fine_answer p c q t NotYet ending right (none_p, none_c) h new i un = absurd (none_p (i, un.0))
fine_answer p c q t Unanswered true true un h new i un' = refl
fine_answer p c q t Unanswered true false un h new i un' = absurd (cc)
fine_answer p c q t Unanswered false right un h new i un' = absurd (cc)
fine_answer p c q t Settled ending right (some, none) h new i un = absurd (none i un)

wrong_answer : (p c q r : Stamped → Bool) (t : List Stamped) (e : Stamped) (state : BadRequest) (ending right : Bool) →
    q e ≡ ending → r e ≡ right → KnowsAnswer p c q state t →
    (is_unanswered state && (ending && not right)) ≡ true → ¬ FirstIs p c q r (t ++ e ∷ [])
wrong_answer p c q r t e NotYet ending right new wrong knows h = absurd (cc)
wrong_answer p c q r t e Settled ending right new wrong knows h = absurd (cc)
wrong_answer p c q r t e Unanswered true true new wrong knows h = absurd (cc)
wrong_answer p c q r t e Unanswered false right new wrong knows h = absurd (cc)
wrong_answer p c q r t e Unanswered true false new wrong (i, un) h = answered-stops p c q r t e i new wrong un

ending_settles : (e : Event) → is_ending e ≡ true → is_cancel_or_ending e ≡ true
ending_settles e h = ap (λ b. is_cancel e || b) h ∙ or-true (is_cancel e)

bad_request_apart : (e : Event) → is_bad_request e ≡ true → is_cancel_or_ending e ≡ true → ⊥
bad_request_apart (Subscribe s) h g = absurd (cc)
bad_request_apart (OnSubscribe s) h g = absurd (cc)
bad_request_apart (Next s) h g = absurd (cc)
bad_request_apart (Complete s) h g = absurd (cc)
bad_request_apart (Error s c) h g = absurd (cc)
bad_request_apart (Exit s) h g = absurd (cc)
bad_request_apart (Request s n) h g = absurd (cc)
bad_request_apart (Cancel s) h g = absurd (cc)
bad_request_apart (CancelNew s) h g = absurd (cc)

same_answer : (a b c a' b' c' : Bool) (state : BadRequest) → a ≡ a' → b ≡ b' → c ≡ c' →
    next_answer a b c state ≡ next_answer a' b' c' state
same_answer a b c a' b' c' state h g f =
    ap (λ x. next_answer x b c state) h ∙ ap (λ x. next_answer a' x c state) g ∙ ap (λ x. next_answer a' b' x state) f

pub answer-step : (s : ℕ) (e : Stamped) (state state' : BadRequest) (effect : Effect) → subscriber_of e.event ≡ s →
    state' ≡ next_answer (is_bad_request e.event) (is_cancel_or_ending e.event) (is_ending e.event) state →
    is_breach effect ≡ (is_unanswered state && (is_ending e.event && not (is_bad_request_error e.event))) →
    Judges (FirstIs (of s is_bad_request) (of s is_cancel_or_ending) (of s is_ending) (of s is_bad_request_error))
    (KnowsAnswer (of s is_bad_request) (of s is_cancel_or_ending) (of s is_ending) state)
    (KnowsAnswer (of s is_bad_request) (of s is_cancel_or_ending) (of s is_ending) state') e effect
answer-step s e state state' effect same moves breach past knows keeps =
    let bad = of-same s is_bad_request e same in
    let settling = of-same s is_cancel_or_ending e same in
    let ending = of-same s is_ending e same in
    let right = of-same s is_bad_request_error e same in
    match_bool (is_breach effect) _ _
    (λ h. wrong_answer (of s is_bad_request) (of s is_cancel_or_ending) (of s is_ending) (of s is_bad_request_error) past e state
    (is_ending e.event) (is_bad_request_error e.event) ending right knows (sym breach ∙ h))
    (λ h. (
      subst (λ x. KnowsAnswer (of s is_bad_request) (of s is_cancel_or_ending) (of s is_ending) x (past ++ e ∷ []))
          (same_answer _ _ _ _ _ _ state bad settling ending ∙ sym moves)
          (knows-more (of s is_bad_request) (of s is_cancel_or_ending) (of s is_ending) past e state
          (λ new. settling ∙ ending_settles e.event (sym ending ∙ new))
          (λ new old. bad_request_apart e.event (sym bad ∙ new) (sym settling ∙ old))
          knows),
      answered-more (of s is_bad_request) (of s is_cancel_or_ending) (of s is_ending) (of s is_bad_request_error) past e keeps
          (λ new i un. right ∙ fine_answer (of s is_bad_request) (of s is_cancel_or_ending) (of s is_ending) past state
          (is_ending e.event) (is_bad_request_error e.event) knows (sym breach ∙ h) (sym ending ∙ new) i un),
    ))

pub answered-none : (s : ℕ) → FirstIs (of s is_bad_request) (of s is_cancel_or_ending) (of s is_ending) (of s is_bad_request_error) []
answered-none s i j (lt, a, none, b, between) = absurd (at-none (of s is_ending) j b)

pub answered-other : (s : ℕ) (t : List Stamped) (e : Stamped) → subscriber_of e.event ≢ s →
    FirstIs (of s is_bad_request) (of s is_cancel_or_ending) (of s is_ending) (of s is_bad_request_error) t →
    FirstIs (of s is_bad_request) (of s is_cancel_or_ending) (of s is_ending) (of s is_bad_request_error) (t ++ e ∷ [])
answered-other s t e ne keeps =
    answered-more (of s is_bad_request) (of s is_cancel_or_ending) (of s is_ending) (of s is_bad_request_error) t e keeps
    (λ new i un. absurd (let isnt = of-other s is_ending e ne in cc))

unmoved : (state : BadRequest) → next_answer false false false state ≡ state
unmoved NotYet = refl
unmoved Unanswered = refl
unmoved Settled = refl

pub knows_answer-other : (state : BadRequest) (s : ℕ) (t : List Stamped) (e : Stamped) → subscriber_of e.event ≢ s →
    KnowsAnswer (of s is_bad_request) (of s is_cancel_or_ending) (of s is_ending) state t →
    KnowsAnswer (of s is_bad_request) (of s is_cancel_or_ending) (of s is_ending) state (t ++ e ∷ [])
knows_answer-other state s t e ne knows =
    let bad = of-other s is_bad_request e ne in
    let settling = of-other s is_cancel_or_ending e ne in
    let ending = of-other s is_ending e ne in
    subst (λ x. KnowsAnswer (of s is_bad_request) (of s is_cancel_or_ending) (of s is_ending) x (t ++ e ∷ []))
    (same_answer _ _ _ _ _ _ state bad settling ending ∙ unmoved state)
    (knows-more (of s is_bad_request) (of s is_cancel_or_ending) (of s is_ending) t e state
    (λ new. absurd (cc)) (λ new old. absurd (cc)) knows)

pub knows_answer-none : (s : ℕ) → KnowsAnswer (of s is_bad_request) (of s is_cancel_or_ending) (of s is_ending) NotYet []
knows_answer-none s =
    ((λ (i, a). at-none (of s is_bad_request) i a), (λ (i, a). at-none (of s is_cancel_or_ending) i a))
