-- No more items than were requested.
use Rattle.std.proofs.Common.{◌≡◌, ◌≢◌, ℕ, zero, suc, pos, negsuc, ◌+◌, ◌<◌, ◌≤◌, ◌==◌, inl, inr, cond, Bool, true, false, ◌&&◌, ◌||◌, List, [], ◌∷◌, ◌++◌, take, min, refl, sym, ap, ◌∙◌, arith}
use Rattle.std.specs.Prelude.{sum_by, if◌then◌else◌}
use Rattle.std.proofs.lemmas.Bool.{cases_Bool, ne_eqb}
use Rattle.std.proofs.lemmas.List.Sums.{sum_by-cons}
use Rattle.rsx_demand.specs.declared.TheConstants.{UNBOUNDED}
use Rattle.rsx_verify.specs.Prelude.{AtEachPosition, Event, Nothing, Stamped, Tells, before_cancel, is_cancel, is_next, items_in, of, requested, requests_in, subscriber_of, tells-none}
use Rattle.rsx_tck.specs.declared.event.Event.TheVariants.{Subscribe, OnSubscribe, Next, Complete, Error, Exit, Request, Cancel}
use Rattle.rsx_tck.specs.Laws.Counting.{before_cancel-other, before_cancel-step, counted_before_cancel-other, each-none, requests_before_cancel}
use Rattle.rsx_verify.proofs.Progress.{Phase, Progress, at, fresh, subscribed, receiving, running, refusing, ending, over, after, May, IsKeptBy}

abbrev pub Covered : ℕ → List Stamped → Type 0
Covered s t = AtEachPosition (λ past. items_in s past ≤ requests_in s (before_cancel s past)) t

-- what was asked for before a cancel, and what was delivered
pub record Counts (me : ℕ) (live : Bool) (a n : ℕ) (t : List Stamped) : Type 0 where
  pub asked : ℕ
  pub cancelled : Bool
  pub sent_is : n ≡ items_in me t
  pub asked_is : asked ≡ requests_before_cancel me t
  pub tells : Tells cancelled (of me is_cancel) t
  pub covers : a ≤ asked
  pub goes_on : live ≡ true → cancelled ≡ false
  pub keeps : Covered me t

-- what one event changes
record Changes (live : Bool) (a n : ℕ) (e : Event) (live' : Bool) (a' n' : ℕ) : Type 0 where
  pub covered : is_next e ≡ true → n < a
  pub sent : n' ≡ n + cond (is_next e) 1 0
  pub raised : (asked : ℕ) (cancelled : Bool) → a ≤ asked → asked ≤ UNBOUNDED → (live ≡ true → cancelled ≡ false) → a' ≤ min UNBOUNDED (asked + (if cancelled then 0 else requested e))
  pub still : live' ≡ true → (live ≡ true) × (is_cancel e ≡ false)

none_over : (next : Bool) (n a asked : ℕ) → (next ≡ true → n < a) → a ≤ asked → false ≡ (next && (asked == n))
none_over true n a asked lt le = sym (ne_eqb asked n (let l = lt refl in λ h. absurd (omega (arith, l, le, h))))
none_over false n a asked lt le = refl

counts_on : (me : ℕ) (live live' : Bool) (a n a' n' : ℕ) (t : List Stamped) (e : Stamped) → subscriber_of e.event ≡ me → Changes live a n e.event live' a' n' → Counts me live a n t → Counts me live' a' n' (t ++ e ∷ [])
counts_on me live live' a n a' n' t e own changes c =
    let asked' : ℕ = min UNBOUNDED (c.asked + (if c.cancelled then 0 else requested e.event)) in
    let within : c.asked ≤ UNBOUNDED = (let is = c.asked_is in omega arith) in
    let step = before_cancel-step me e n c.asked n' asked' c.cancelled (c.cancelled || is_cancel e.event) Nothing own refl (λ h. changes.sent) refl (none_over (is_next e.event) n a c.asked changes.covered c.covers) t (c.sent_is, c.asked_is, c.tells) c.keeps in
    record {
      asked = asked';
      cancelled = c.cancelled || is_cancel e.event;
      sent_is = step.0.0;
      asked_is = step.0.1;
      tells = step.0.2;
      covers = changes.raised c.asked c.cancelled c.covers within c.goes_on;
      goes_on = λ l. let still = changes.still l in ap (λ b. b || is_cancel e.event) (c.goes_on still.0) ∙ still.1;
      keeps = step.1;
    }

-- an event of another subscriber
counts_beside : (me : ℕ) (live : Bool) (a n : ℕ) (t : List Stamped) (e : Stamped) → subscriber_of e.event ≢ me → Counts me live a n t → Counts me live a n (t ++ e ∷ [])
counts_beside me live a n t e other c =
    let same = counted_before_cancel-other n c.asked c.cancelled me t e other (c.sent_is, c.asked_is, c.tells) in
    record {
      asked = c.asked;
      cancelled = c.cancelled;
      sent_is = same.0;
      asked_is = same.1;
      tells = same.2;
      covers = c.covers;
      goes_on = c.goes_on;
      keeps = before_cancel-other me t e other c.keeps;
    }

abbrev pub is_live : Phase → Bool
is_live ending = false
is_live over = false
is_live _ = true

raises : (a asked x : ℕ) → a ≤ asked → asked ≤ UNBOUNDED → a ≤ min UNBOUNDED (asked + x)
raises a asked x le within = omega arith

raises_more : (a k asked : ℕ) (cancelled : Bool) → a ≤ asked → cancelled ≡ false → min UNBOUNDED (a + k) ≤ min UNBOUNDED (asked + (if cancelled then 0 else k))
raises_more a k asked false le h = omega arith
raises_more a k asked true le h = absurd (cc)

-- an event that is no item, and asks for nothing
quiet : (live live' : Bool) (a n : ℕ) (e : Event) → is_next e ≡ false → (live' ≡ true → (live ≡ true) × (is_cancel e ≡ false)) → Changes live a n e live' a n
quiet live live' a n e isnt still = record {
  covered = λ is. absurd (cc);
  sent = (let h : n ≡ n + cond false 1 0 = omega arith in h ∙ ap (λ b. n + cond b 1 0) (sym isnt));
  raised = λ asked cancelled le within g. raises a asked (if cancelled then 0 else requested e) le within;
  still = still;
}

abbrev pub KeepsCounts : ℕ → Progress → List Stamped → Type 0
KeepsCounts me (at p a n) t = Counts me (is_live p) a n t

counted : (me : ℕ) (p : Progress) (t : List Stamped) (e : Event) (w : ℕ) → subscriber_of e ≡ me → May p e → KeepsCounts me p t → KeepsCounts me (after p e) (t ++ record { worker = w; event = e } ∷ [])
counted me (at fresh a n) t (Subscribe s) w own m c = counts_on me true true a n a n t (record { worker = w; event = Subscribe s }) own (quiet true true a n (Subscribe s) refl (λ l. (l, refl))) c
counted me (at subscribed a n) t (OnSubscribe s) w own m c = counts_on me true true a n a n t (record { worker = w; event = OnSubscribe s }) own (quiet true true a n (OnSubscribe s) refl (λ l. (l, refl))) c
counted me (at receiving a n) t (Exit s) w own m c = counts_on me true true a n a n t (record { worker = w; event = Exit s }) own (quiet true true a n (Exit s) refl (λ l. (l, refl))) c
counted me (at running a n) t (Next s) w own m c = counts_on me true true a n a (n + 1) t (record { worker = w; event = Next s }) own
    (record { covered = λ is. m; sent = refl; raised = λ asked cancelled le within g. raises a asked (if cancelled then 0 else 0) le within; still = λ l. (l, refl) }) c
counted me (at running a n) t (Complete s) w own m c = counts_on me true false a n a n t (record { worker = w; event = Complete s }) own (quiet true false a n (Complete s) refl (λ l. absurd (cc))) c
counted me (at running a n) t (Error s x) w own m c = counts_on me true false a n a n t (record { worker = w; event = Error s x }) own (quiet true false a n (Error s x) refl (λ l. absurd (cc))) c
counted me (at running a n) t (Request s (pos zero)) w own m c = counts_on me true true a n a n t (record { worker = w; event = Request s (pos zero) }) own (quiet true true a n (Request s (pos zero)) refl (λ l. (l, refl))) c
counted me (at running a n) t (Request s (pos (suc k))) w own m c = counts_on me true true a n (min UNBOUNDED (a + suc k)) n t (record { worker = w; event = Request s (pos (suc k)) }) own
    (record { covered = λ is. absurd (cc); sent = omega arith; raised = λ asked cancelled le within g. raises_more a (suc k) asked cancelled le (g refl); still = λ l. (l, refl) }) c
counted me (at running a n) t (Request s (negsuc k)) w own m c = counts_on me true true a n a n t (record { worker = w; event = Request s (negsuc k) }) own (quiet true true a n (Request s (negsuc k)) refl (λ l. (l, refl))) c
counted me (at running a n) t (Cancel s) w own m c = counts_on me true false a n a n t (record { worker = w; event = Cancel s }) own (quiet true false a n (Cancel s) refl (λ l. absurd (cc))) c
counted me (at refusing a n) t (Error s x) w own m c = counts_on me true false a n a n t (record { worker = w; event = Error s x }) own (quiet true false a n (Error s x) refl (λ l. absurd (cc))) c
counted me (at ending a n) t (Exit s) w own m c = counts_on me false false a n a n t (record { worker = w; event = Exit s }) own (quiet false false a n (Exit s) refl (λ l. absurd (cc))) c
counted me (at over a n) t (Request s r) w own m c = counts_on me false false a n a n t (record { worker = w; event = Request s r }) own (quiet false false a n (Request s r) refl (λ l. absurd (cc))) c
counted me (at over a n) t (Cancel s) w own m c = counts_on me false false a n a n t (record { worker = w; event = Cancel s }) own (quiet false false a n (Cancel s) refl (λ l. absurd (cc))) c
counted me _ t e w own m c = absurd m

counted_beside : (me : ℕ) (p : Progress) (t : List Stamped) (e : Stamped) → subscriber_of e.event ≢ me → KeepsCounts me p t → KeepsCounts me p (t ++ e ∷ [])
counted_beside me (at p a n) t e other c = counts_beside me (is_live p) a n t e other c

pub counts_kept : (me : ℕ) → IsKeptBy me (KeepsCounts me)
counts_kept me = record { own = λ p t e goes c. counted me p t e.event e.worker goes.own goes.may c; other = λ p t e ne c. counted_beside me p t e ne c }

pub counts_first : (me : ℕ) → KeepsCounts me (at fresh 0 0) []
counts_first me = record {
  asked = 0;
  cancelled = false;
  sent_is = refl;
  asked_is = refl;
  tells = tells-none (of me is_cancel);
  covers = omega arith;
  goes_on = λ l. refl;
  keeps = each-none (λ past. items_in me past ≤ requests_in me (before_cancel me past));
}

-- ---- what is covered before a cancel is covered

fewer : (s : ℕ) (t : List Stamped) → sum_by (λ e. if subscriber_of e.event == s then requested e.event else 0) (before_cancel s t) ≤ sum_by (λ e. if subscriber_of e.event == s then requested e.event else 0) t
fewer s [] = omega arith
fewer s (e ∷ t) = elim (cases_Bool (of s is_cancel e)) [
  | inl is ↦ (let none : before_cancel s (e ∷ t) ≡ [] = ap (λ b. if b then [] else e ∷ before_cancel s t) is in
      rw none (omega arith))
  | inr isnt ↦ (let more : before_cancel s (e ∷ t) ≡ e ∷ before_cancel s t = ap (λ b. if b then [] else e ∷ before_cancel s t) isnt in
      let first = sum_by-cons (λ x. if subscriber_of x.event == s then requested x.event else 0) e (before_cancel s t) in
      let whole = sum_by-cons (λ x. if subscriber_of x.event == s then requested x.event else 0) e t in
      let rest = fewer s t in
      rw more (omega (arith, first, whole, rest)))
]

fewer_in : (s : ℕ) (t : List Stamped) → requests_in s (before_cancel s t) ≤ requests_in s t
fewer_in s t = let h = fewer s t in omega (arith, h)

pub covered_requests : (s : ℕ) (t : List Stamped) → Covered s t → AtEachPosition (λ past. items_in s past ≤ requests_in s past) t
covered_requests s t c i lt = let h = c i lt in let g = fewer_in s (take (i + 1) t) in omega (arith, h, g)
