-- The sentences that compare the items with the requests at each position.
use Rattle.std.proofs.Common.{◌≡◌, ◌≢◌, ℕ, zero, suc, ◌+◌, ◌<◌, ◌≤◌, ◌⊎◌, inl, inr, Bool, true, false, ◌&&◌, ◌||◌, ◌==◌, cond, List, [], ◌∷◌, ◌++◌, length, take, refl, sym, ap, ◌∙◌, subst, arith, min, add-one, length-append, zero-add, add-zero}
use Rattle.std.proofs.Math.Nat.{lt-suc_self}
use Rattle.std.specs.Prelude.{sum_by, if◌then◌else◌, MatchBool}
use Rattle.std.proofs.lemmas.Bool.{eq-eqb, ne_eqb, and_parts, cases_Bool, cases_lt, eqb-true, eqb-false}
use Rattle.std.proofs.lemmas.List.{take-append-le}
use Rattle.std.proofs.lemmas.List.Sums.{sum_by-append}
use Rattle.rsx_demand.specs.declared.TheConstants.{UNBOUNDED}
use Rattle.rsx_tck.specs.declared.event.Event.{Event}
use Rattle.rsx_tck.specs.declared.event.Event.TheVariants.{Subscribe, OnSubscribe, Next, Complete, Error, Exit, Request, Cancel, CancelNew}
use Rattle.rsx_tck.specs.declared.event.Stamped.{Stamped}
use Rattle.rsx_tck.specs.declared.pass.Effect.{Effect}
use Rattle.rsx_tck.specs.Events.{of, subscriber_of, requested, is_next, is_cancel}
use Rattle.rsx_tck.specs.Sentences.{AtEachPosition, items_in, requests_in, before_cancel}
use Rattle.rsx_tck.specs.Passes.{Stands, Tells, Judges, is_breach}
use Rattle.rsx_tck.specs.Laws.Following.{tells-same, tells-other}
use Rattle.rsx_tck.specs.Laws.Positions.{at-none, of-same, of-other, match_bool}

take_whole : {X : Type 0} (t : List X) → take (length t) t ≡ t
take_whole [] = refl
take_whole (x ∷ t) = ap (λ u. x ∷ u) (take_whole t)

length_snoc : (t : List Stamped) (e : Stamped) → length (t ++ e ∷ []) ≡ length t + 1
length_snoc t e = length-append t (e ∷ [])

pub each-none : (P : List Stamped → Type 0) → AtEachPosition P []
each-none P i lt = absurd (omega arith)

pub each-more : (P : List Stamped → Type 0) (t : List Stamped) (e : Stamped) → AtEachPosition P t → P (t ++ e ∷ []) →
    AtEachPosition P (t ++ e ∷ [])
each-more P t e each last i lt =
    elim (cases_lt i (length t)) [
      | inl below ↦ (let le : i + 1 ≤ length t = omega arith in subst P (sym (take-append-le (i + 1) t (e ∷ []) le)) (each i below))
      | inr above ↦ (let len = length_snoc t e in
          let at_end : i + 1 ≡ length (t ++ e ∷ []) = omega arith in
          subst P (sym (ap (λ n. take n (t ++ e ∷ [])) at_end ∙ take_whole (t ++ e ∷ []))) last)
    ]

pub each-last : (P : List Stamped → Type 0) (t : List Stamped) (e : Stamped) → AtEachPosition P (t ++ e ∷ []) → P (t ++ e ∷ [])
each-last P t e each =
    let len = length_snoc t e in
    let lt : length t < length (t ++ e ∷ []) = omega arith in
    let at_end : length t + 1 ≡ length (t ++ e ∷ []) = omega arith in
    subst P (ap (λ n. take n (t ++ e ∷ [])) at_end ∙ take_whole (t ++ e ∷ [])) (each (length t) lt)

pub items_in-more : (s : ℕ) (t : List Stamped) (e : Stamped) →
    items_in s (t ++ e ∷ []) ≡ items_in s t + cond (of s is_next e) 1 0
items_in-more s t e = sum_by-append (λ x. cond (of s is_next x) 1 0) t (e ∷ []) ∙
    ap (λ n. items_in s t + n) (zero-add (cond (of s is_next e) 1 0))

capped_sum : (c a k : ℕ) → min c (a + k) ≡ min c (min c a + k)
capped_sum c a k = omega arith

pub requests_in-more : (s : ℕ) (t : List Stamped) (e : Stamped) →
    requests_in s (t ++ e ∷ []) ≡ min UNBOUNDED (requests_in s t + (if subscriber_of e.event == s then requested e.event else 0))
requests_in-more s t e =
    let more = sum_by-append (λ x. if subscriber_of x.event == s then requested x.event else 0) t (e ∷ []) ∙
    ap (λ n. sum_by (λ x. if subscriber_of x.event == s then requested x.event else 0) t + n)
    (zero-add (if subscriber_of e.event == s then requested e.event else 0)) in
    ap (λ n. min UNBOUNDED n) more ∙
    capped_sum UNBOUNDED (sum_by (λ x. if subscriber_of x.event == s then requested x.event else 0) t)
    (if subscriber_of e.event == s then requested e.event else 0)

-- what an event of s adds, and what one of another subscriber does
pub requests_in-same : (s : ℕ) (t : List Stamped) (e : Stamped) → subscriber_of e.event ≡ s →
    requests_in s (t ++ e ∷ []) ≡ min UNBOUNDED (requests_in s t + requested e.event)
requests_in-same s t e same = requests_in-more s t e ∙
    ap (λ b. min UNBOUNDED (requests_in s t + (if b then requested e.event else 0))) (eq-eqb (subscriber_of e.event) s same)

capped_again : (c a : ℕ) → min c (min c a + 0) ≡ min c a
capped_again c a = omega arith

pub requests_in-other : (s : ℕ) (t : List Stamped) (e : Stamped) → subscriber_of e.event ≢ s →
    requests_in s (t ++ e ∷ []) ≡ requests_in s t
requests_in-other s t e ne = requests_in-more s t e ∙
    ap (λ b. min UNBOUNDED (requests_in s t + (if b then requested e.event else 0))) (ne_eqb (subscriber_of e.event) s ne) ∙
    capped_again UNBOUNDED (sum_by (λ x. if subscriber_of x.event == s then requested x.event else 0) t)

pub items_in-same : (s : ℕ) (t : List Stamped) (e : Stamped) → subscriber_of e.event ≡ s →
    items_in s (t ++ e ∷ []) ≡ items_in s t + cond (is_next e.event) 1 0
items_in-same s t e same = items_in-more s t e ∙ ap (λ b. items_in s t + cond b 1 0) (of-same s is_next e same)

pub items_in-other : (s : ℕ) (t : List Stamped) (e : Stamped) → subscriber_of e.event ≢ s →
    items_in s (t ++ e ∷ []) ≡ items_in s t
items_in-other s t e ne = items_in-more s t e ∙ ap (λ b. items_in s t + cond b 1 0) (of-other s is_next e ne) ∙ add-zero (items_in s t)

-- what stands before the first Cancel, as the trace goes on
none_of_tail : (p : Stamped → Bool) (x : Stamped) (t : List Stamped) → ¬ Stands p (x ∷ t) → ¬ Stands p t
none_of_tail p x t none (i, a) = none (suc i, a)

some_of_tail : (p : Stamped → Bool) (x : Stamped) (t : List Stamped) → p x ≡ false → Stands p (x ∷ t) → Stands p t
some_of_tail p x t not_x (zero, (y, f, g)) = absurd (cc)
some_of_tail p x t not_x (suc i, a) = (i, a)

pub before_cancel-cancelled : (s : ℕ) (t u : List Stamped) → Stands (of s is_cancel) t →
    before_cancel s (t ++ u) ≡ before_cancel s t
before_cancel-cancelled s [] u (i, a) = absurd (at-none (of s is_cancel) i a)
before_cancel-cancelled s (x ∷ t) u stands = elim (cases_Bool (of s is_cancel x)) [
  | inl is ↦ ap (λ b. if b then [] else x ∷ before_cancel s (t ++ u)) is ∙ sym (ap (λ b. if b then [] else x ∷ before_cancel s t) is)
  | inr isnt ↦ (let rest = before_cancel-cancelled s t u (some_of_tail (of s is_cancel) x t isnt stands) in
      ap (λ b. if b then [] else x ∷ before_cancel s (t ++ u)) isnt ∙ ap (λ v. x ∷ v) rest ∙
      sym (ap (λ b. if b then [] else x ∷ before_cancel s t) isnt))
]

pub before_cancel-whole : (s : ℕ) (t : List Stamped) → ¬ Stands (of s is_cancel) t → before_cancel s t ≡ t
before_cancel-whole s [] none = refl
before_cancel-whole s (x ∷ t) none = elim (cases_Bool (of s is_cancel x)) [
  | inl is ↦ absurd (none (zero, (x, refl, is)))
  | inr isnt ↦ ap (λ b. if b then [] else x ∷ before_cancel s t) isnt ∙
      ap (λ v. x ∷ v) (before_cancel-whole s t (none_of_tail (of s is_cancel) x t none))
]

-- one event more: an item is sent where it was requested, and a request adds to what was requested
next_adds_nothing : (e : Event) → is_next e ≡ true → requested e ≡ 0
next_adds_nothing (Next s) h = refl
next_adds_nothing (Subscribe s) h = refl
next_adds_nothing (OnSubscribe s) h = refl
next_adds_nothing (Complete s) h = refl
next_adds_nothing (Error s c) h = refl
next_adds_nothing (Exit s) h = refl
next_adds_nothing (Request s n) h = absurd (cc)
next_adds_nothing (Cancel s) h = refl
next_adds_nothing (CancelNew s) h = refl

last_of_each : (P : List Stamped → Type 0) (t : List Stamped) → P [] → AtEachPosition P t → P t
last_of_each P [] first each = first
last_of_each P (x ∷ t) first each =
    let lt : length t < length (x ∷ t) = lt-suc_self (length t) in
    subst P (ap (λ n. take n (x ∷ t)) (add-one (length t)) ∙ take_whole (x ∷ t)) (each (length t) lt)

covered_on : (next : Bool) (sent asked sent' asked' added : ℕ) → sent ≤ asked → asked ≤ UNBOUNDED →
    asked' ≡ min UNBOUNDED (asked + added) → sent' ≡ sent + cond next 1 0 → (next && (asked == sent)) ≡ false →
    sent' ≤ asked'
covered_on true sent asked sent' asked' added covered bounded asks sends room =
    let apart = eqb-false asked sent room in omega arith
covered_on false sent asked sent' asked' added covered bounded asks sends room = omega arith

pub count-step : (s : ℕ) (requests : List Stamped → ℕ) (past : List Stamped) (e : Stamped) (sent asked sent' asked' added : ℕ) (effect : Effect) →
    subscriber_of e.event ≡ s →
    requests (past ++ e ∷ []) ≡ min UNBOUNDED (requests past + added) →
    (is_next e.event ≡ true → added ≡ 0) →
    requests past ≤ UNBOUNDED →
    asked' ≡ min UNBOUNDED (asked + added) →
    (is_breach effect ≡ false → sent' ≡ sent + cond (is_next e.event) 1 0) →
    is_breach effect ≡ (is_next e.event && (asked == sent)) →
    sent ≡ items_in s past → asked ≡ requests past →
    AtEachPosition (λ t. items_in s t ≤ requests t) past →
    MatchBool (is_breach effect)
    (¬ AtEachPosition (λ t. items_in s t ≤ requests t) (past ++ e ∷ []))
    (((sent' ≡ items_in s (past ++ e ∷ [])) × (asked' ≡ requests (past ++ e ∷ [])))
    × AtEachPosition (λ t. items_in s t ≤ requests t) (past ++ e ∷ []))
count-step s requests past e sent asked sent' asked' added effect same adds next_adds bounded asks sends breach is_sent is_asked keeps =
    let items = items_in-same s past e same in
    let so_far = last_of_each (λ t. items_in s t ≤ requests t) past (omega arith) keeps in
    match_bool (is_breach effect) _ _
    (λ h. let next = (and_parts (is_next e.event) (asked == sent) (sym breach ∙ h)).0 in
    let full = eqb-true asked sent (and_parts (is_next e.event) (asked == sent) (sym breach ∙ h)).1 in
    let one : items_in s (past ++ e ∷ []) ≡ items_in s past + 1 = items ∙ ap (λ b. items_in s past + cond b 1 0) next in
    let nothing : added ≡ 0 = next_adds next in
    (λ each. let last = each-last (λ t. items_in s t ≤ requests t) past e each in absurd (omega arith)))
    (λ h.
    let sent_is : sent' ≡ items_in s (past ++ e ∷ []) =
    sends h ∙ ap (λ n. n + cond (is_next e.event) 1 0) is_sent ∙ sym items in
    let asked_is : asked' ≡ requests (past ++ e ∷ []) =
    asks ∙ ap (λ n. min UNBOUNDED (n + added)) is_asked ∙ sym adds in
    let on : sent' ≤ asked' =
    covered_on (is_next e.event) sent asked sent' asked' added (omega arith) (omega arith) asks (sends h) (sym breach ∙ h) in (
      (sent_is, asked_is),
      each-more (λ t. items_in s t ≤ requests t) past e keeps (omega arith),
    ))

-- an event of another subscriber counts for nothing
pub counted-other : (sent asked s : ℕ) (t : List Stamped) (e : Stamped) → subscriber_of e.event ≢ s →
    (sent ≡ items_in s t) × (asked ≡ requests_in s t) →
    (sent ≡ items_in s (t ++ e ∷ [])) × (asked ≡ requests_in s (t ++ e ∷ []))
counted-other sent asked s t e ne (is_sent, is_asked) =
    (is_sent ∙ sym (items_in-other s t e ne), is_asked ∙ sym (requests_in-other s t e ne))

pub requested-other : (s : ℕ) (t : List Stamped) (e : Stamped) → subscriber_of e.event ≢ s →
    AtEachPosition (λ past. items_in s past ≤ requests_in s past) t →
    AtEachPosition (λ past. items_in s past ≤ requests_in s past) (t ++ e ∷ [])
requested-other s t e ne each =
    each-more (λ past. items_in s past ≤ requests_in s past) t e each
    (let items = items_in-other s t e ne in let requests = requests_in-other s t e ne in
    let last = last_of_each (λ past. items_in s past ≤ requests_in s past) t (omega arith) each in
    omega arith)

-- the step of the pass for 1.1
pub requested-step : (s : ℕ) (e : Stamped) (sent asked sent' asked' : ℕ) (effect : Effect) →
    subscriber_of e.event ≡ s →
    asked' ≡ min UNBOUNDED (asked + requested e.event) →
    (is_breach effect ≡ false → sent' ≡ sent + cond (is_next e.event) 1 0) →
    is_breach effect ≡ (is_next e.event && (asked == sent)) →
    Judges (AtEachPosition (λ t. items_in s t ≤ requests_in s t))
    (λ t. (sent ≡ items_in s t) × (asked ≡ requests_in s t)) (λ t. (sent' ≡ items_in s t) × (asked' ≡ requests_in s t)) e effect
requested-step s e sent asked sent' asked' effect same asks sends breach past (is_sent, is_asked) keeps =
    count-step s (requests_in s) past e sent asked sent' asked' (requested e.event) effect same
    (requests_in-same s past e same) (next_adds_nothing e.event) (omega arith) asks sends breach is_sent is_asked keeps

cons_if : (b : Bool) (x : Stamped) (t u : List Stamped) → x ∷ (if b then t else u) ≡ (if b then x ∷ t else x ∷ u)
cons_if true x t u = refl
cons_if false x t u = refl

adds_nothing : (cancelled : Bool) (e : Event) → is_next e ≡ true → (if cancelled then 0 else requested e) ≡ 0
adds_nothing true e next = refl
adds_nothing false e next = next_adds_nothing e next

with_more : (b : Bool) (A B C D E : Type 0) → MatchBool b A ((B × C) × D) → E → MatchBool b A ((B × C × E) × D)
with_more true A B C D E h e = h
with_more false A B C D E ((x, y), z) e = ((x, y, e), z)

-- the requests before the first Cancel, as the trace goes on
before_cancel-last : (s : ℕ) (t : List Stamped) (e : Stamped) → ¬ Stands (of s is_cancel) t →
    before_cancel s (t ++ e ∷ []) ≡ (if of s is_cancel e then t else t ++ e ∷ [])
before_cancel-last s [] e none = refl
before_cancel-last s (x ∷ t) e none = elim (cases_Bool (of s is_cancel x)) [
  | inl is ↦ absurd (none (zero, (x, refl, is)))
  | inr isnt ↦ ap (λ b. if b then [] else x ∷ before_cancel s (t ++ e ∷ [])) isnt ∙
      ap (λ v. x ∷ v) (before_cancel-last s t e (none_of_tail (of s is_cancel) x t none)) ∙
      cons_if (of s is_cancel e) x t (t ++ e ∷ [])
]

cancel_adds_nothing : (e : Event) → is_cancel e ≡ true → requested e ≡ 0
cancel_adds_nothing (Next s) h = refl
cancel_adds_nothing (Subscribe s) h = refl
cancel_adds_nothing (OnSubscribe s) h = refl
cancel_adds_nothing (Complete s) h = refl
cancel_adds_nothing (Error s c) h = refl
cancel_adds_nothing (Exit s) h = refl
cancel_adds_nothing (Request s n) h = absurd (cc)
cancel_adds_nothing (Cancel s) h = refl
cancel_adds_nothing (CancelNew s) h = refl

abbrev pub requests_before_cancel : ℕ → List Stamped → ℕ
requests_before_cancel s t = requests_in s (before_cancel s t)

open_requests : (s : ℕ) (t : List Stamped) (e : Stamped) → subscriber_of e.event ≡ s → ¬ Stands (of s is_cancel) t →
    requests_before_cancel s (t ++ e ∷ []) ≡ min UNBOUNDED (requests_before_cancel s t + requested e.event)
open_requests s t e same none =
    ap (requests_in s) (before_cancel-last s t e none) ∙
    elim (cases_Bool (of s is_cancel e)) [
      | inl is ↦ ap (λ b. requests_in s (if b then t else t ++ e ∷ [])) is ∙
          sym (capped_again UNBOUNDED _) ∙
          ap (λ n. min UNBOUNDED (requests_in s t + n)) (sym (cancel_adds_nothing e.event (sym (of-same s is_cancel e same) ∙ is))) ∙
          ap (λ v. min UNBOUNDED (requests_in s v + requested e.event)) (sym (before_cancel-whole s t none))
      | inr isnt ↦ ap (λ b. requests_in s (if b then t else t ++ e ∷ [])) isnt ∙ requests_in-same s t e same ∙
          ap (λ v. min UNBOUNDED (requests_in s v + requested e.event)) (sym (before_cancel-whole s t none))
    ]

closed_requests : (s : ℕ) (t : List Stamped) (e : Stamped) → Stands (of s is_cancel) t →
    requests_before_cancel s (t ++ e ∷ []) ≡ min UNBOUNDED (requests_before_cancel s t + 0)
closed_requests s t e some = ap (requests_in s) (before_cancel-cancelled s t (e ∷ []) some) ∙ sym (capped_again UNBOUNDED _)

requests_before_cancel-more : (s : ℕ) (t : List Stamped) (e : Stamped) (cancelled : Bool) → subscriber_of e.event ≡ s →
    Tells cancelled (of s is_cancel) t →
    requests_before_cancel s (t ++ e ∷ []) ≡ min UNBOUNDED (requests_before_cancel s t + (if cancelled then 0 else requested e.event))
requests_before_cancel-more s t e true same tells = closed_requests s t e (tells.0 refl)
requests_before_cancel-more s t e false same tells = open_requests s t e same (λ stands. absurd (let h = tells.1 stands in cc))

pub before_cancel-step : (s : ℕ) (e : Stamped) (sent asked sent' asked' : ℕ) (cancelled cancelled' : Bool) (effect : Effect) →
    subscriber_of e.event ≡ s →
    asked' ≡ min UNBOUNDED (asked + (if cancelled then 0 else requested e.event)) →
    (is_breach effect ≡ false → sent' ≡ sent + cond (is_next e.event) 1 0) →
    cancelled' ≡ (cancelled || is_cancel e.event) →
    is_breach effect ≡ (is_next e.event && (asked == sent)) →
    Judges (AtEachPosition (λ t. items_in s t ≤ requests_in s (before_cancel s t)))
    (λ t. (sent ≡ items_in s t) × (asked ≡ requests_before_cancel s t) × Tells cancelled (of s is_cancel) t)
    (λ t. (sent' ≡ items_in s t) × (asked' ≡ requests_before_cancel s t) × Tells cancelled' (of s is_cancel) t) e effect
before_cancel-step s e sent asked sent' asked' cancelled cancelled' effect same asks sends cancels breach past (is_sent, is_asked, tells) keeps =
    let counted = count-step s (requests_before_cancel s) past e sent asked sent' asked' (if cancelled then 0 else requested e.event) effect same
    (requests_before_cancel-more s past e cancelled same tells) (adds_nothing cancelled e.event)
    (omega arith) asks sends breach is_sent is_asked keeps in
    with_more (is_breach effect) _ _ _ _ _ counted (tells-same is_cancel s past e cancelled cancelled' same cancels tells)

stands_or_not : (p : Stamped → Bool) (t : List Stamped) → (Stands p t) ⊎ (¬ Stands p t)
stands_or_not p [] = inr (λ (i, a). at-none p i a)
stands_or_not p (x ∷ t) = elim (cases_Bool (p x)) [
  | inl is ↦ inl (zero, (x, refl, is))
  | inr isnt ↦ elim (stands_or_not p t) [
    | inl (i, a) ↦ inl (suc i, a)
    | inr none ↦ inr (λ stands. none (some_of_tail p x t isnt stands))
  ]
]

requests_before_cancel-other : (s : ℕ) (t : List Stamped) (e : Stamped) → subscriber_of e.event ≢ s →
    requests_before_cancel s (t ++ e ∷ []) ≡ requests_before_cancel s t
requests_before_cancel-other s t e ne = elim (stands_or_not (of s is_cancel) t) [
  | inl some ↦ ap (requests_in s) (before_cancel-cancelled s t (e ∷ []) some)
  | inr none ↦ ap (requests_in s) (before_cancel-last s t e none) ∙
      ap (λ b. requests_in s (if b then t else t ++ e ∷ [])) (of-other s is_cancel e ne) ∙
      requests_in-other s t e ne ∙ ap (requests_in s) (sym (before_cancel-whole s t none))
]

pub before_cancel-other : (s : ℕ) (t : List Stamped) (e : Stamped) → subscriber_of e.event ≢ s →
    AtEachPosition (λ past. items_in s past ≤ requests_in s (before_cancel s past)) t →
    AtEachPosition (λ past. items_in s past ≤ requests_in s (before_cancel s past)) (t ++ e ∷ [])
before_cancel-other s t e ne each =
    each-more (λ past. items_in s past ≤ requests_before_cancel s past) t e each
    (let items = items_in-other s t e ne in let requests = requests_before_cancel-other s t e ne in
    let last = last_of_each (λ past. items_in s past ≤ requests_before_cancel s past) t (omega arith) each in
    omega arith)

pub counted_before_cancel-other : (sent asked : ℕ) (cancelled : Bool) (s : ℕ) (t : List Stamped) (e : Stamped) → subscriber_of e.event ≢ s →
    (sent ≡ items_in s t) × (asked ≡ requests_in s (before_cancel s t)) × Tells cancelled (of s is_cancel) t →
    (sent ≡ items_in s (t ++ e ∷ [])) × (asked ≡ requests_in s (before_cancel s (t ++ e ∷ []))) × Tells cancelled (of s is_cancel) (t ++ e ∷ [])
counted_before_cancel-other sent asked cancelled s t e ne (is_sent, is_asked, tells) = (
  is_sent ∙ sym (items_in-other s t e ne),
  is_asked ∙ sym (requests_before_cancel-other s t e ne),
  tells-other is_cancel s t e cancelled ne tells,
)
