-- The sentence on an unwanted subscription.
use Rattle.std.proofs.Common.{◌≡◌, ◌≢◌, ℕ, zero, suc, ◌<◌, ◌≤◌, ◌⊎◌, inl, inr, Bool, true, false, not, ◌&&◌, ◌||◌, List, [], ◌∷◌, ◌++◌, length, refl, sym, ap, ◌∙◌, subst, arith, IsTrue, get_or, set}
use Rattle.std.specs.Prelude.{◌↔◌}
use Rattle.std.proofs.Math.Bool.{or-true}
use Rattle.std.proofs.Math.Nat.{zero-lt-suc}
use Rattle.std.proofs.lemmas.Bool.{and_parts, and_from, or_cases, not-true, cases_Bool}
use Rattle.rsx_tck.specs.declared.event.Stamped.{Stamped}
use Rattle.rsx_tck.specs.declared.pass.Effect.{Effect}
use Rattle.rsx_tck.specs.Events.{of, of_on, subscriber_of, is_on_subscribe, is_cancel_or_ending, is_exit, is_cancel_new}
use Rattle.rsx_tck.specs.Sentences.{At, SomeBefore, NoneBefore, IsUnwanted, RefusesUnwanted}
use Rattle.rsx_tck.specs.Passes.{Judges, is_breach, Stands, Tells, TellsWorkers, IsUnrefused, KnowsUnrefused}
use Rattle.rsx_tck.specs.Laws.Positions.{at-none, at-below, at-old, at-new, at-cases, at-back, at-last, of-same, of-other, match_bool}
use Rattle.rsx_tck.specs.Laws.Following.{tells-none, tells-same, tells-other}
use Rattle.rsx_tck.specs.Laws.Running.{on-same, on-elsewhere, on-isnt}
use Rattle.rsx_tck.specs.Laws.Working.{tells_workers-more, tells_workers-same, tells_workers-none, on-parts}

-- an unwanted OnSubscribe, as the trace goes on
unwanted-old : (s w : ℕ) (t : List Stamped) (e : Stamped) (i : ℕ) → IsUnwanted s w t i → IsUnwanted s w (t ++ e ∷ []) i
unwanted-old s w t e i (a, (h, lt, b), none) =
    let below = at-below (of_on s w is_on_subscribe) t i a in (
      at-old (of_on s w is_on_subscribe) t e i a,
      (h, lt, at-old (of s is_on_subscribe) t e h b),
      (λ k l c. none k l (at-back (of s is_cancel_or_ending) t e k c (omega arith))),
    )

unwanted-rest : (s w : ℕ) (t : List Stamped) (e : Stamped) (i : ℕ) → i ≤ length t →
    SomeBefore (of s is_on_subscribe) (t ++ e ∷ []) i × NoneBefore (of s is_cancel_or_ending) (t ++ e ∷ []) i →
    SomeBefore (of s is_on_subscribe) t i × NoneBefore (of s is_cancel_or_ending) t i
unwanted-rest s w t e i within ((h, lt, b), none) = (
  (h, lt, at-back (of s is_on_subscribe) t e h b (omega arith)),
  (λ k l c. none k l (at-old (of s is_cancel_or_ending) t e k c)),
)

unwanted-back : (s w : ℕ) (t : List Stamped) (e : Stamped) (i : ℕ) → i < length t → IsUnwanted s w (t ++ e ∷ []) i → IsUnwanted s w t i
unwanted-back s w t e i within (a, some, none) =
    let rest = unwanted-rest s w t e i (omega arith) (some, none) in
    (at-back (of_on s w is_on_subscribe) t e i a within, rest.0, rest.1)

-- one that is unrefused, as the trace goes on
unrefused-none : (s w : ℕ) → ¬ IsUnrefused s w []
unrefused-none s w (i, un, exits, refusals) = at-none (of_on s w is_on_subscribe) i un.0

unrefused-new : (s w : ℕ) (t : List Stamped) (e : Stamped) → of_on s w is_on_subscribe e ≡ true → Stands (of s is_on_subscribe) t →
    ¬ Stands (of s is_cancel_or_ending) t → IsUnrefused s w (t ++ e ∷ [])
unrefused-new s w t e new (h, a) none = (
  length t,
  (
    at-new (of_on s w is_on_subscribe) t e new,
    (h, at-below (of s is_on_subscribe) t h a, at-old (of s is_on_subscribe) t e h a),
    (λ k l c. none (k, at-back (of s is_cancel_or_ending) t e k c l)),
  ),
  at-last (of_on s w is_exit) t e,
  at-last (of_on s w is_cancel_new) t e,
)

still_none : (p : Stamped → Bool) (t : List Stamped) (e : Stamped) (i : ℕ) → p e ≡ false → ((k : ℕ) → i < k → ¬ At p t k) →
    (k : ℕ) → i < k → ¬ At p (t ++ e ∷ []) k
still_none p t e i h none k lt a = elim (at-cases p t e k a) [ inl old ↦ none k lt old | inr (n, new) ↦ absurd (cc) ]

unrefused-old : (s w : ℕ) (t : List Stamped) (e : Stamped) → of_on s w is_exit e ≡ false → of_on s w is_cancel_new e ≡ false →
    IsUnrefused s w t → IsUnrefused s w (t ++ e ∷ [])
unrefused-old s w t e h g (i, un, exits, refusals) = (
  i,
  unwanted-old s w t e i un,
  still_none (of_on s w is_exit) t e i h exits,
  still_none (of_on s w is_cancel_new) t e i g refusals,
)

unrefused-cases : (s w : ℕ) (t : List Stamped) (e : Stamped) → IsUnrefused s w (t ++ e ∷ []) →
    ((of_on s w is_on_subscribe e ≡ true) × Stands (of s is_on_subscribe) t × (¬ Stands (of s is_cancel_or_ending) t))
    ⊎ (IsUnrefused s w t × (of_on s w is_exit e ≡ true → ⊥) × (of_on s w is_cancel_new e ≡ true → ⊥))
unrefused-cases s w t e (i, un, exits, refusals) = elim (at-cases (of_on s w is_on_subscribe) t e i un.0) [
  | inl old ↦ (let below = at-below (of_on s w is_on_subscribe) t i old in inr (
    (
      i,
      unwanted-back s w t e i below un,
      (λ k l a. exits k l (at-old (of_on s w is_exit) t e k a)),
      (λ k l a. refusals k l (at-old (of_on s w is_cancel_new) t e k a)),
    ),
    (λ new. exits (length t) below (at-new (of_on s w is_exit) t e new)),
    (λ new. refusals (length t) below (at-new (of_on s w is_cancel_new) t e new)),
  ))
  | inr (n, new) ↦ (let rest = unwanted-rest s w t e i (omega arith) (un.1, un.2) in inl (
    new,
    (rest.0.0, rest.0.2),
    (λ (h, a). let below = at-below (of s is_cancel_or_ending) t h a in rest.1 h (omega arith) a),
  ))
]

nowhere : (p : Stamped → Bool) (x : Stamped) (t : List Stamped) → p x ≡ false → ((k : ℕ) → ¬ At p t k) → (k : ℕ) → ¬ At p (x ∷ t) k
nowhere p x t isnt none zero (y, f, g) = absurd (cc)
nowhere p x t isnt none (suc k) a = none k a

later_none : (p : Stamped → Bool) (x : Stamped) (t : List Stamped) → ((k : ℕ) → ¬ At p t k) → (k : ℕ) → zero < k → ¬ At p (x ∷ t) k
later_none p x t none zero lt a = absurd (omega arith)
later_none p x t none (suc k) lt a = none k a

later_none_after : (p : Stamped → Bool) (x : Stamped) (t : List Stamped) (i : ℕ) → ((k : ℕ) → i < k → ¬ At p t k) →
    (k : ℕ) → suc i < k → ¬ At p (x ∷ t) k
later_none_after p x t i none zero lt a = absurd (omega arith)
later_none_after p x t i none (suc k) lt a = none k (omega arith) a

somewhere : (p : Stamped → Bool) (t : List Stamped) → (Stands p t) ⊎ ((k : ℕ) → ¬ At p t k)
somewhere p [] = inr (at-none p)
somewhere p (x ∷ t) = elim (cases_Bool (p x)) [
  | inl is ↦ inl (zero, (x, refl, is))
  | inr isnt ↦ elim (somewhere p t) [ inl (k, a) ↦ inl (suc k, a) | inr none ↦ inr (nowhere p x t isnt none) ]
]

-- an event stands after a position, or none does
after_or_none : (p : Stamped → Bool) (t : List Stamped) (i : ℕ) →
    ((k : ℕ) × (i < k) × At p t k) ⊎ ((k : ℕ) → i < k → ¬ At p t k)
after_or_none p [] i = inr (λ k lt a. at-none p k a)
after_or_none p (x ∷ t) zero = elim (somewhere p t) [
  | inl (k, a) ↦ inl (suc k, zero-lt-suc k, a)
  | inr none ↦ inr (later_none p x t none)
]
after_or_none p (x ∷ t) (suc i) = elim (after_or_none p t i) [
  | inl (k, lt, a) ↦ inl (suc k, omega arith, a)
  | inr none ↦ inr (later_none_after p x t i none)
]

-- the sentence, as the trace goes on
pub refuses-none : (s : ℕ) → RefusesUnwanted s []
refuses-none s w i k lt un a between = absurd (at-none (of_on s w is_exit) k a)

refuses-more : (s : ℕ) (t : List Stamped) (e : Stamped) → RefusesUnwanted s t →
    ((w : ℕ) → of_on s w is_exit e ≡ true → ¬ IsUnrefused s w t) → RefusesUnwanted s (t ++ e ∷ [])
refuses-more s t e keeps fine w i k lt un a between = elim (at-cases (of_on s w is_exit) t e k a) [
  | inl old ↦ (let below = at-below (of_on s w is_exit) t k old in
      let found = keeps w i k lt (unwanted-back s w t e i (omega arith) un) old
      (λ j l m b. between j l m (at-old (of_on s w is_exit) t e j b)) in
      (found.0, found.1, found.2, at-old (of_on s w is_cancel_new) t e found.0 found.3))
  | inr (n, new) ↦ elim (after_or_none (of_on s w is_cancel_new) t i) [
    | inl (j, l, b) ↦ (let below = at-below (of_on s w is_cancel_new) t j b in
        (j, l, omega arith, at-old (of_on s w is_cancel_new) t e j b))
    | inr none ↦ absurd (fine w new (
      i,
      unwanted-back s w t e i (omega arith) un,
      (λ j l b. let below = at-below (of_on s w is_exit) t j b in between j l (omega arith) (at-old (of_on s w is_exit) t e j b)),
      none,
    ))
  ]
]

refuses-stops : (s w : ℕ) (t : List Stamped) (e : Stamped) → of_on s w is_exit e ≡ true → IsUnrefused s w t → ¬ RefusesUnwanted s (t ++ e ∷ [])
refuses-stops s w t e new (i, un, exits, refusals) keeps =
    let found = keeps w i (length t) (at-below (of_on s w is_on_subscribe) t i un.0) (unwanted-old s w t e i un)
    (at-new (of_on s w is_exit) t e new) (λ j l m b. exits j l (at-back (of_on s w is_exit) t e j b m)) in
    refusals found.0 found.1 (at-back (of_on s w is_cancel_new) t e found.0 found.3 found.2)

pub refuses-other : (s : ℕ) (t : List Stamped) (e : Stamped) → subscriber_of e.event ≢ s → RefusesUnwanted s t → RefusesUnwanted s (t ++ e ∷ [])
refuses-other s t e ne keeps =
    refuses-more s t e keeps (λ w new. absurd (let isnt = on-isnt s w is_exit e (of-other s is_exit e ne) in cc))

-- the flags
unrefused_elsewhere : (s w : ℕ) (t : List Stamped) (e : Stamped) → of_on s w is_on_subscribe e ≡ false → of_on s w is_exit e ≡ false →
    of_on s w is_cancel_new e ≡ false → IsUnrefused s w t ↔ IsUnrefused s w (t ++ e ∷ [])
unrefused_elsewhere s w t e h g f = (
  unrefused-old s w t e g f,
  (λ unrefused. elim (unrefused-cases s w t e unrefused) [ inl (new, some, none) ↦ absurd (cc) | inr (old, ne, ne') ↦ old ]),
)

pub knows_unrefused-none : (flags : List Bool) (s : ℕ) → length flags ≡ 256 → ((w : ℕ) → w < 256 → get_or flags w false ≡ false) →
    KnowsUnrefused false false flags s []
knows_unrefused-none flags s len clear = (
  tells-none (of s is_on_subscribe),
  tells-none (of s is_cancel_or_ending),
  tells_workers-none flags (λ w. IsUnrefused s w []) len clear (unrefused-none s),
)

pub knows_unrefused-other : (opened settled : Bool) (flags : List Bool) (s : ℕ) (t : List Stamped) (e : Stamped) → subscriber_of e.event ≢ s →
    KnowsUnrefused opened settled flags s t → KnowsUnrefused opened settled flags s (t ++ e ∷ [])
knows_unrefused-other opened settled flags s t e ne (opens, settles, holds) = (
  tells-other is_on_subscribe s t e opened ne opens,
  tells-other is_cancel_or_ending s t e settled ne settles,
  tells_workers-same flags (λ w. IsUnrefused s w t) (λ w. IsUnrefused s w (t ++ e ∷ [])) holds
      (λ w. unrefused_elsewhere s w t e (on-isnt s w is_on_subscribe e (of-other s is_on_subscribe e ne))
      (on-isnt s w is_exit e (of-other s is_exit e ne)) (on-isnt s w is_cancel_new e (of-other s is_cancel_new e ne))),
)

-- the flag of the event's worker: whether an OnSubscribe begins, an Exit comes, a CancelNew comes
neither : (a b : Bool) → (a || b) ≡ false → (a ≡ false) × (b ≡ false)
neither true b h = absurd (cc)
neither false b h = (refl, h)

not_true_is_false : (a : Bool) → (a ≡ true → ⊥) → a ≡ false
not_true_is_false true h = absurd (h refl)
not_true_is_false false h = refl

unrefused_flag : (s w : ℕ) (t : List Stamped) (e : Stamped) (unrefused opened settled begins exits refuses : Bool) →
    of_on s w is_on_subscribe e ≡ begins → of_on s w is_exit e ≡ exits → of_on s w is_cancel_new e ≡ refuses →
    Tells opened (of s is_on_subscribe) t → Tells settled (of s is_cancel_or_ending) t → (IsTrue unrefused ↔ IsUnrefused s w t) →
    IsTrue ((begins && (opened && not settled)) || (unrefused && not (exits || refuses))) ↔ IsUnrefused s w (t ++ e ∷ [])
unrefused_flag s w t e unrefused opened settled begins exits refuses h g f opens settles holds = (
  (λ flag. elim (or_cases (begins && (opened && not settled)) (unrefused && not (exits || refuses)) flag) [
    | inl new ↦
        (let begun = and_parts begins (opened && not settled) new in
        let rest = and_parts opened (not settled) begun.1 in
        let unsettled = not-true settled rest.1 in
        unrefused-new s w t e (h ∙ begun.0) (opens.0 rest.0) (λ some. absurd (let is = settles.1 some in cc)))
    | inr old ↦
        (let both = and_parts unrefused (not (exits || refuses)) old in
        let quiet = neither exits refuses (not-true (exits || refuses) both.1) in
        unrefused-old s w t e (g ∙ quiet.0) (f ∙ quiet.1) (holds.0 both.0))
  ]),
  (λ found. elim (unrefused-cases s w t e found) [
    | inl (new, some, none) ↦
        (let unsettled : settled ≡ false = not_true_is_false settled (λ is. none (settles.0 is)) in
        let begun : (begins && (opened && not settled)) ≡ true =
        and_from begins (opened && not settled) (sym h ∙ new)
        (and_from opened (not settled) (opens.1 some) (ap not unsettled)) in
        ap (λ b. b || (unrefused && not (exits || refuses))) begun)
    | inr (old, ne, ne') ↦
        (let stays : (unrefused && not (exits || refuses)) ≡ true =
        and_from unrefused (not (exits || refuses)) (holds.1 old)
        (ap (λ b. not (b || refuses)) (not_true_is_false exits (λ is. ne (g ∙ is))) ∙
        ap not (not_true_is_false refuses (λ is. ne' (f ∙ is)))) in
        ap (λ b. (begins && (opened && not settled)) || b) stays ∙ or-true (begins && (opened && not settled)))
  ]),
)

pub unrefused-step : (s : ℕ) (e : Stamped) (opened opened' settled settled' : Bool) (flags flags' : List Bool) (flag : Bool) (effect : Effect) →
    subscriber_of e.event ≡ s → e.worker < 256 →
    opened' ≡ (opened || is_on_subscribe e.event) →
    settled' ≡ (settled || is_cancel_or_ending e.event) →
    flag ≡ ((is_on_subscribe e.event && (opened && not settled)) || (get_or flags e.worker false && not (is_exit e.event || is_cancel_new e.event))) →
    flags' ≡ set flags e.worker flag →
    is_breach effect ≡ (get_or flags e.worker false && is_exit e.event) →
    Judges (RefusesUnwanted s) (KnowsUnrefused opened settled flags s) (KnowsUnrefused opened' settled' flags' s) e effect
unrefused-step s e opened opened' settled settled' flags flags' flag effect same lt opening settling moves writes breach past (opens, settles, holds) keeps =
    match_bool (is_breach effect) _ _
    (λ h. let both = and_parts (get_or flags e.worker false) (is_exit e.event) (sym breach ∙ h) in
    refuses-stops s e.worker past e (on-same s e.worker is_exit e same refl ∙ both.1) ((holds.1 e.worker lt).0 both.0))
    (λ h. (
      (
        tells-same is_on_subscribe s past e opened opened' same opening opens,
        tells-same is_cancel_or_ending s past e settled settled' same settling settles,
        subst (λ f. TellsWorkers f (λ w. IsUnrefused s w (past ++ e ∷ []))) (sym writes)
            (tells_workers-more flags (λ w. IsUnrefused s w past) (λ w. IsUnrefused s w (past ++ e ∷ [])) e.worker flag lt holds
            (let tells = unrefused_flag s e.worker past e (get_or flags e.worker false) opened settled
            (is_on_subscribe e.event) (is_exit e.event) (is_cancel_new e.event)
            (on-same s e.worker is_on_subscribe e same refl) (on-same s e.worker is_exit e same refl)
            (on-same s e.worker is_cancel_new e same refl) opens settles (holds.1 e.worker lt) in
            ((λ f. tells.0 (sym moves ∙ f)), (λ o. moves ∙ tells.1 o)))
            (λ w apart. unrefused_elsewhere s w past e
            (on-elsewhere s w is_on_subscribe e (λ g. apart (sym g)))
            (on-elsewhere s w is_exit e (λ g. apart (sym g)))
            (on-elsewhere s w is_cancel_new e (λ g. apart (sym g))))),
      ),
      refuses-more s past e keeps
          (λ w new found.
          let at = on-parts s w is_exit e new in
          let flagged = (holds.1 w (subst (λ n. n < 256) at.0 lt)).1 found in
          let on_here : get_or flags e.worker false ≡ true = ap (λ n. get_or flags n false) at.0 ∙ flagged in
          let exits = sym (of-same s is_exit e same) ∙ at.1 in
          absurd (let both = breach ∙ and_from (get_or flags e.worker false) (is_exit e.event) on_here exits in cc)),
    ))
