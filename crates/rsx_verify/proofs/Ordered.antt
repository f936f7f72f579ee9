-- What stands before an event, and what after one.
use Rattle.std.proofs.Common.{◌≡◌, ◌≢◌, ℕ, zero, suc, pos, negsuc, ◌<◌, ◌==◌, inl, inr, Bool, true, false, not, List, [], ◌∷◌, ◌++◌, length, refl, ap, ◌∙◌, arith, IsTrue}
use Rattle.std.proofs.lemmas.Bool.{and_parts, and_right, ne_eqb}
use Rattle.rsx_types.specs.declared.signal.Cause.{Cause}
use Rattle.rsx_verify.specs.Prelude.{EachAfter, Event, NonPositiveRequest, NoneAfter, Stamped, Stands, at-new, at-none, each_after-more, each_after-none, each_after-other, is_bad_request, is_bad_request_error, is_ending, is_next, is_next_or_ending, is_on_subscribe, is_positive_request, is_signal, is_subscribe, none_after-more, none_after-none, none_after-other, of, of-other, of-same, stands-cases, stands-old, subscriber_of}
use Rattle.rsx_tck.specs.declared.event.Event.TheVariants.{Subscribe, OnSubscribe, Next, Complete, Error, Exit, Request, Cancel}
use Rattle.rsx_verify.proofs.Progress.{Progress, at, fresh, subscribed, receiving, running, refusing, ending, over, after, May, IsKeptBy}

-- an event on this worker
abbrev pub on : ℕ → Event → Stamped
on w e = record { worker = w; event = e }

of_none : (s : ℕ) (kind : Event → Bool) (w : ℕ) (e : Event) → kind e ≡ false → of s kind (on w e) ≡ false
of_none s kind w e isnt = and_right (subscriber_of e == s) (kind e) isnt

pub of_kind : (s : ℕ) (kind : Event → Bool) (w : ℕ) (e : Event) → IsTrue (of s kind (on w e)) → kind e ≡ true
of_kind s kind w e h = (and_parts (subscriber_of e == s) (kind e) h).1

-- still none stands
still_none : (me : ℕ) (kind : Event → Bool) (t : List Stamped) (w : ℕ) (e : Event) → kind e ≡ false → ¬ Stands (of me kind) t → ¬ Stands (of me kind) (t ++ on w e ∷ [])
still_none me kind t w e isnt none stands = elim (stands-cases (of me kind) t (on w e) stands)
    [ inl old ↦ none old | inr new ↦ absurd (let off = of_none me kind w e isnt in cc) ]

none_beside : (me : ℕ) (kind : Event → Bool) (t : List Stamped) (e : Stamped) → subscriber_of e.event ≢ me → ¬ Stands (of me kind) t → ¬ Stands (of me kind) (t ++ e ∷ [])
none_beside me kind t e other none stands = elim (stands-cases (of me kind) t e stands)
    [ inl old ↦ none old | inr new ↦ absurd (let off = of-other me kind e other in cc) ]

none_stands : (p : Stamped → Bool) → ¬ Stands p []
none_stands p (i, a) = at-none p i a

-- the last one stands
last_stands : (me : ℕ) (kind : Event → Bool) (t : List Stamped) (w : ℕ) (e : Event) → subscriber_of e ≡ me → kind e ≡ true → Stands (of me kind) (t ++ on w e ∷ [])
last_stands me kind t w e own is = (length t, at-new (of me kind) t (on w e) (of-same me kind (on w e) own ∙ is))

-- ---- one Subscribe, and one OnSubscribe

-- none has stood while one may come
abbrev pub Unsubscribed : ℕ → Progress → List Stamped → Type 0
Unsubscribed me (at fresh a n) t = ¬ Stands (of me is_subscribe) t
Unsubscribed me (at p a n) t = Unit {0}

unsubscribed_on : (me : ℕ) (p : Progress) (e : Event) (t : List Stamped) → May p e → Unsubscribed me (after p e) t
unsubscribed_on me (at fresh a n) (Subscribe s) t m = tt
unsubscribed_on me (at subscribed a n) (OnSubscribe s) t m = tt
unsubscribed_on me (at receiving a n) (Exit s) t m = tt
unsubscribed_on me (at running a n) (Next s) t m = tt
unsubscribed_on me (at running a n) (Complete s) t m = tt
unsubscribed_on me (at running a n) (Error s c) t m = tt
unsubscribed_on me (at running a n) (Request s (pos zero)) t m = tt
unsubscribed_on me (at running a n) (Request s (pos (suc k))) t m = tt
unsubscribed_on me (at running a n) (Request s (negsuc k)) t m = tt
unsubscribed_on me (at running a n) (Cancel s) t m = tt
unsubscribed_on me (at refusing a n) (Error s c) t m = tt
unsubscribed_on me (at ending a n) (Exit s) t m = tt
unsubscribed_on me (at over a n) (Request s r) t m = tt
unsubscribed_on me (at over a n) (Cancel s) t m = tt
unsubscribed_on me _ e t m = absurd m

subscribe_first : (me : ℕ) (p : Progress) (e : Event) (t : List Stamped) → May p e → is_subscribe e ≡ true → Unsubscribed me p t → ¬ Stands (of me is_subscribe) t
subscribe_first me (at fresh a n) e t m is none = none
subscribe_first me p (Subscribe s) t m is none = absurd m
subscribe_first me p e t m is none = absurd (cc)

unsubscribed_beside : (me : ℕ) (p : Progress) (t : List Stamped) (e : Stamped) → subscriber_of e.event ≢ me → Unsubscribed me p t → Unsubscribed me p (t ++ e ∷ [])
unsubscribed_beside me (at fresh a n) t e other none = none_beside me is_subscribe t e other none
unsubscribed_beside me _ t e other none = tt

abbrev pub KeepsSubscribe : ℕ → Progress → List Stamped → Type 0
KeepsSubscribe me p t = Unsubscribed me p t × NoneAfter (of me is_subscribe) (of me is_subscribe) t

pub subscribe_kept : (me : ℕ) → IsKeptBy me (KeepsSubscribe me)
subscribe_kept me = record {
  own = λ p t e goes k. (
    unsubscribed_on me p e.event (t ++ e ∷ []) goes.may,
    none_after-more (of me is_subscribe) (of me is_subscribe) t e k.1 (λ new. subscribe_first me p e.event t goes.may (of_kind me is_subscribe e.worker e.event new) k.0),
  );
  other = λ p t e ne k. (unsubscribed_beside me p t e ne k.0, none_after-other is_subscribe is_subscribe me t e ne k.1);
}

pub subscribe_begins : (me : ℕ) → KeepsSubscribe me (at fresh 0 0) []
subscribe_begins me = (none_stands (of me is_subscribe), none_after-none (of me is_subscribe) (of me is_subscribe))

abbrev pub Unopened : ℕ → Progress → List Stamped → Type 0
Unopened me (at fresh a n) t = ¬ Stands (of me is_on_subscribe) t
Unopened me (at subscribed a n) t = ¬ Stands (of me is_on_subscribe) t
Unopened me (at p a n) t = Unit {0}

unopened_on : (me : ℕ) (p : Progress) (e : Event) (w : ℕ) (t : List Stamped) → May p e → Unopened me p t → Unopened me (after p e) (t ++ on w e ∷ [])
unopened_on me (at fresh a n) (Subscribe s) w t m none = still_none me is_on_subscribe t w (Subscribe s) refl none
unopened_on me (at subscribed a n) (OnSubscribe s) w t m none = tt
unopened_on me (at receiving a n) (Exit s) w t m none = tt
unopened_on me (at running a n) (Next s) w t m none = tt
unopened_on me (at running a n) (Complete s) w t m none = tt
unopened_on me (at running a n) (Error s c) w t m none = tt
unopened_on me (at running a n) (Request s (pos zero)) w t m none = tt
unopened_on me (at running a n) (Request s (pos (suc k))) w t m none = tt
unopened_on me (at running a n) (Request s (negsuc k)) w t m none = tt
unopened_on me (at running a n) (Cancel s) w t m none = tt
unopened_on me (at refusing a n) (Error s c) w t m none = tt
unopened_on me (at ending a n) (Exit s) w t m none = tt
unopened_on me (at over a n) (Request s r) w t m none = tt
unopened_on me (at over a n) (Cancel s) w t m none = tt
unopened_on me _ e w t m none = absurd m

on_subscribe_first : (me : ℕ) (p : Progress) (e : Event) (t : List Stamped) → May p e → is_on_subscribe e ≡ true → Unopened me p t → ¬ Stands (of me is_on_subscribe) t
on_subscribe_first me (at subscribed a n) e t m is none = none
on_subscribe_first me p (OnSubscribe s) t m is none = absurd m
on_subscribe_first me p e t m is none = absurd (cc)

unopened_beside : (me : ℕ) (p : Progress) (t : List Stamped) (e : Stamped) → subscriber_of e.event ≢ me → Unopened me p t → Unopened me p (t ++ e ∷ [])
unopened_beside me (at fresh a n) t e other none = none_beside me is_on_subscribe t e other none
unopened_beside me (at subscribed a n) t e other none = none_beside me is_on_subscribe t e other none
unopened_beside me _ t e other none = tt

abbrev pub KeepsOnSubscribe : ℕ → Progress → List Stamped → Type 0
KeepsOnSubscribe me p t = Unopened me p t × NoneAfter (of me is_on_subscribe) (of me is_on_subscribe) t

pub on_subscribe_kept : (me : ℕ) → IsKeptBy me (KeepsOnSubscribe me)
on_subscribe_kept me = record {
  own = λ p t e goes k. (
    unopened_on me p e.event e.worker t goes.may k.0,
    none_after-more (of me is_on_subscribe) (of me is_on_subscribe) t e k.1 (λ new. on_subscribe_first me p e.event t goes.may (of_kind me is_on_subscribe e.worker e.event new) k.0),
  );
  other = λ p t e ne k. (unopened_beside me p t e ne k.0, none_after-other is_on_subscribe is_on_subscribe me t e ne k.1);
}

pub on_subscribe_begins : (me : ℕ) → KeepsOnSubscribe me (at fresh 0 0) []
on_subscribe_begins me = (none_stands (of me is_on_subscribe), none_after-none (of me is_on_subscribe) (of me is_on_subscribe))

-- ---- nothing after an ending

-- no ending has stood while one may come
abbrev pub Unended : ℕ → Progress → List Stamped → Type 0
Unended me (at ending a n) t = Unit {0}
Unended me (at over a n) t = Unit {0}
Unended me (at p a n) t = ¬ Stands (of me is_ending) t

unended_on : (me : ℕ) (p : Progress) (e : Event) (w : ℕ) (t : List Stamped) → May p e → Unended me p t → Unended me (after p e) (t ++ on w e ∷ [])
unended_on me (at fresh a n) (Subscribe s) w t m none = still_none me is_ending t w (Subscribe s) refl none
unended_on me (at subscribed a n) (OnSubscribe s) w t m none = still_none me is_ending t w (OnSubscribe s) refl none
unended_on me (at receiving a n) (Exit s) w t m none = still_none me is_ending t w (Exit s) refl none
unended_on me (at running a n) (Next s) w t m none = still_none me is_ending t w (Next s) refl none
unended_on me (at running a n) (Complete s) w t m none = tt
unended_on me (at running a n) (Error s c) w t m none = tt
unended_on me (at running a n) (Request s (pos zero)) w t m none = still_none me is_ending t w (Request s (pos zero)) refl none
unended_on me (at running a n) (Request s (pos (suc k))) w t m none = still_none me is_ending t w (Request s (pos (suc k))) refl none
unended_on me (at running a n) (Request s (negsuc k)) w t m none = still_none me is_ending t w (Request s (negsuc k)) refl none
unended_on me (at running a n) (Cancel s) w t m none = tt
unended_on me (at refusing a n) (Error s c) w t m none = tt
unended_on me (at ending a n) (Exit s) w t m none = tt
unended_on me (at over a n) (Request s r) w t m none = tt
unended_on me (at over a n) (Cancel s) w t m none = tt
unended_on me _ e w t m none = absurd m

signal_unended : (me : ℕ) (p : Progress) (e : Event) (t : List Stamped) → May p e → is_signal e ≡ true → Unended me p t → ¬ Stands (of me is_ending) t
signal_unended me (at fresh a n) e t m is none = none
signal_unended me (at subscribed a n) e t m is none = none
signal_unended me (at receiving a n) e t m is none = none
signal_unended me (at running a n) e t m is none = none
signal_unended me (at refusing a n) e t m is none = none
signal_unended me (at ending a n) (Exit s) t m is none = absurd (cc)
signal_unended me (at over a n) (Request s r) t m is none = absurd (cc)
signal_unended me (at over a n) (Cancel s) t m is none = absurd (cc)
signal_unended me _ e t m is none = absurd m

unended_beside : (me : ℕ) (p : Progress) (t : List Stamped) (e : Stamped) → subscriber_of e.event ≢ me → Unended me p t → Unended me p (t ++ e ∷ [])
unended_beside me (at ending a n) t e other none = tt
unended_beside me (at over a n) t e other none = tt
unended_beside me (at fresh a n) t e other none = none_beside me is_ending t e other none
unended_beside me (at subscribed a n) t e other none = none_beside me is_ending t e other none
unended_beside me (at receiving a n) t e other none = none_beside me is_ending t e other none
unended_beside me (at running a n) t e other none = none_beside me is_ending t e other none
unended_beside me (at refusing a n) t e other none = none_beside me is_ending t e other none

abbrev pub KeepsEndings : ℕ → Progress → List Stamped → Type 0
KeepsEndings me p t = Unended me p t × NoneAfter (of me is_ending) (of me is_signal) t

pub endings_kept : (me : ℕ) → IsKeptBy me (KeepsEndings me)
endings_kept me = record {
  own = λ p t e goes k. (
    unended_on me p e.event e.worker t goes.may k.0,
    none_after-more (of me is_ending) (of me is_signal) t e k.1 (λ new. signal_unended me p e.event t goes.may (of_kind me is_signal e.worker e.event new) k.0),
  );
  other = λ p t e ne k. (unended_beside me p t e ne k.0, none_after-other is_ending is_signal me t e ne k.1);
}

pub endings_first : (me : ℕ) → KeepsEndings me (at fresh 0 0) []
endings_first me = (none_stands (of me is_ending), none_after-none (of me is_ending) (of me is_signal))

-- ---- each after another

-- once OnSubscribe has come, it stands
abbrev pub Opened : ℕ → Progress → List Stamped → Type 0
Opened me (at fresh a n) t = Unit {0}
Opened me (at subscribed a n) t = Unit {0}
Opened me (at p a n) t = Stands (of me is_on_subscribe) t

opened_on : (me : ℕ) (p : Progress) (e : Event) (w : ℕ) (t : List Stamped) → subscriber_of e ≡ me → May p e → Opened me p t → Opened me (after p e) (t ++ on w e ∷ [])
opened_on me (at fresh a n) (Subscribe s) w t own m o = tt
opened_on me (at subscribed a n) (OnSubscribe s) w t own m o = last_stands me is_on_subscribe t w (OnSubscribe s) own refl
opened_on me (at receiving a n) (Exit s) w t own m o = stands-old (of me is_on_subscribe) t (on w (Exit s)) o
opened_on me (at running a n) (Next s) w t own m o = stands-old (of me is_on_subscribe) t (on w (Next s)) o
opened_on me (at running a n) (Complete s) w t own m o = stands-old (of me is_on_subscribe) t (on w (Complete s)) o
opened_on me (at running a n) (Error s c) w t own m o = stands-old (of me is_on_subscribe) t (on w (Error s c)) o
opened_on me (at running a n) (Request s (pos zero)) w t own m o = stands-old (of me is_on_subscribe) t (on w (Request s (pos zero))) o
opened_on me (at running a n) (Request s (pos (suc k))) w t own m o = stands-old (of me is_on_subscribe) t (on w (Request s (pos (suc k)))) o
opened_on me (at running a n) (Request s (negsuc k)) w t own m o = stands-old (of me is_on_subscribe) t (on w (Request s (negsuc k))) o
opened_on me (at running a n) (Cancel s) w t own m o = stands-old (of me is_on_subscribe) t (on w (Cancel s)) o
opened_on me (at refusing a n) (Error s c) w t own m o = stands-old (of me is_on_subscribe) t (on w (Error s c)) o
opened_on me (at ending a n) (Exit s) w t own m o = stands-old (of me is_on_subscribe) t (on w (Exit s)) o
opened_on me (at over a n) (Request s r) w t own m o = stands-old (of me is_on_subscribe) t (on w (Request s r)) o
opened_on me (at over a n) (Cancel s) w t own m o = stands-old (of me is_on_subscribe) t (on w (Cancel s)) o
opened_on me _ e w t own m o = absurd m

signal_opened : (me : ℕ) (p : Progress) (e : Event) (t : List Stamped) → May p e → is_next_or_ending e ≡ true → Opened me p t → Stands (of me is_on_subscribe) t
signal_opened me (at fresh a n) (Subscribe s) t m is o = absurd (cc)
signal_opened me (at subscribed a n) (OnSubscribe s) t m is o = absurd (cc)
signal_opened me (at receiving a n) e t m is o = o
signal_opened me (at running a n) e t m is o = o
signal_opened me (at refusing a n) e t m is o = o
signal_opened me (at ending a n) e t m is o = o
signal_opened me (at over a n) e t m is o = o
signal_opened me _ e t m is o = absurd m

opened_beside : (me : ℕ) (p : Progress) (t : List Stamped) (e : Stamped) → Opened me p t → Opened me p (t ++ e ∷ [])
opened_beside me (at fresh a n) t e o = tt
opened_beside me (at subscribed a n) t e o = tt
opened_beside me (at receiving a n) t e o = stands-old (of me is_on_subscribe) t e o
opened_beside me (at running a n) t e o = stands-old (of me is_on_subscribe) t e o
opened_beside me (at refusing a n) t e o = stands-old (of me is_on_subscribe) t e o
opened_beside me (at ending a n) t e o = stands-old (of me is_on_subscribe) t e o
opened_beside me (at over a n) t e o = stands-old (of me is_on_subscribe) t e o

abbrev pub KeepsOpening : ℕ → Progress → List Stamped → Type 0
KeepsOpening me p t = Opened me p t × EachAfter (of me is_on_subscribe) (of me is_next_or_ending) t

pub opening_kept : (me : ℕ) → IsKeptBy me (KeepsOpening me)
opening_kept me = record {
  own = λ p t e goes k. (
    opened_on me p e.event e.worker t goes.own goes.may k.0,
    each_after-more (of me is_on_subscribe) (of me is_next_or_ending) t e k.1 (λ new. signal_opened me p e.event t goes.may (of_kind me is_next_or_ending e.worker e.event new) k.0),
  );
  other = λ p t e ne k. (opened_beside me p t e k.0, each_after-other is_on_subscribe is_next_or_ending me t e ne k.1);
}

pub opening_first : (me : ℕ) → KeepsOpening me (at fresh 0 0) []
opening_first me = (tt, each_after-none (of me is_on_subscribe) (of me is_next_or_ending))

pub not_none : (k : ℕ) → (suc k == 0) ≡ false
not_none k = ne_eqb (suc k) 0 (λ h. absurd (omega (arith, h)))

-- once something was asked for, a request stands
abbrev pub HasRequested : ℕ → Progress → List Stamped → Type 0
HasRequested me (at p a n) t = 0 < a → Stands (of me is_positive_request) t

requested_on : (me : ℕ) (p : Progress) (e : Event) (w : ℕ) (t : List Stamped) → subscriber_of e ≡ me → May p e → HasRequested me p t → HasRequested me (after p e) (t ++ on w e ∷ [])
requested_on me (at fresh a n) (Subscribe s) w t own m o = λ lt. stands-old (of me is_positive_request) t (on w (Subscribe s)) (o lt)
requested_on me (at subscribed a n) (OnSubscribe s) w t own m o = λ lt. stands-old (of me is_positive_request) t (on w (OnSubscribe s)) (o lt)
requested_on me (at receiving a n) (Exit s) w t own m o = λ lt. stands-old (of me is_positive_request) t (on w (Exit s)) (o lt)
requested_on me (at running a n) (Next s) w t own m o = λ lt. stands-old (of me is_positive_request) t (on w (Next s)) (o lt)
requested_on me (at running a n) (Complete s) w t own m o = λ lt. stands-old (of me is_positive_request) t (on w (Complete s)) (o lt)
requested_on me (at running a n) (Error s c) w t own m o = λ lt. stands-old (of me is_positive_request) t (on w (Error s c)) (o lt)
requested_on me (at running a n) (Request s (pos zero)) w t own m o = λ lt. stands-old (of me is_positive_request) t (on w (Request s (pos zero))) (o lt)
requested_on me (at running a n) (Request s (pos (suc k))) w t own m o = λ lt. last_stands me is_positive_request t w (Request s (pos (suc k))) own (ap not (not_none k))
requested_on me (at running a n) (Request s (negsuc k)) w t own m o = λ lt. stands-old (of me is_positive_request) t (on w (Request s (negsuc k))) (o lt)
requested_on me (at running a n) (Cancel s) w t own m o = λ lt. stands-old (of me is_positive_request) t (on w (Cancel s)) (o lt)
requested_on me (at refusing a n) (Error s c) w t own m o = λ lt. stands-old (of me is_positive_request) t (on w (Error s c)) (o lt)
requested_on me (at ending a n) (Exit s) w t own m o = λ lt. stands-old (of me is_positive_request) t (on w (Exit s)) (o lt)
requested_on me (at over a n) (Request s r) w t own m o = λ lt. stands-old (of me is_positive_request) t (on w (Request s r)) (o lt)
requested_on me (at over a n) (Cancel s) w t own m o = λ lt. stands-old (of me is_positive_request) t (on w (Cancel s)) (o lt)
requested_on me _ e w t own m o = absurd m

item_requested : (me : ℕ) (p : Progress) (e : Event) (t : List Stamped) → May p e → is_next e ≡ true → HasRequested me p t → Stands (of me is_positive_request) t
item_requested me (at running a n) (Next s) t m is o = o (omega (arith, m))
item_requested me p (Next s) t m is o = absurd m
item_requested me p e t m is o = absurd (cc)

requested_beside : (me : ℕ) (p : Progress) (t : List Stamped) (e : Stamped) → HasRequested me p t → HasRequested me p (t ++ e ∷ [])
requested_beside me (at p a n) t e o = λ lt. stands-old (of me is_positive_request) t e (o lt)

abbrev pub KeepsRequests : ℕ → Progress → List Stamped → Type 0
KeepsRequests me p t = HasRequested me p t × EachAfter (of me is_positive_request) (of me is_next) t

pub requests_kept : (me : ℕ) → IsKeptBy me (KeepsRequests me)
requests_kept me = record {
  own = λ p t e goes k. (
    requested_on me p e.event e.worker t goes.own goes.may k.0,
    each_after-more (of me is_positive_request) (of me is_next) t e k.1 (λ new. item_requested me p e.event t goes.may (of_kind me is_next e.worker e.event new) k.0),
  );
  other = λ p t e ne k. (requested_beside me p t e k.0, each_after-other is_positive_request is_next me t e ne k.1);
}

pub requests_first : (me : ℕ) → KeepsRequests me (at fresh 0 0) []
requests_first me = ((λ lt. absurd (omega (arith, lt))), each_after-none (of me is_positive_request) (of me is_next))

-- where the error of a bad request comes next, a bad request stands
abbrev pub HasRequestedBadly : ℕ → Progress → List Stamped → Type 0
HasRequestedBadly me (at refusing a n) t = Stands (of me is_bad_request) t
HasRequestedBadly me (at p a n) t = Unit {0}

badly_on : (me : ℕ) (p : Progress) (e : Event) (w : ℕ) (t : List Stamped) → subscriber_of e ≡ me → May p e → HasRequestedBadly me (after p e) (t ++ on w e ∷ [])
badly_on me (at fresh a n) (Subscribe s) w t own m = tt
badly_on me (at subscribed a n) (OnSubscribe s) w t own m = tt
badly_on me (at receiving a n) (Exit s) w t own m = tt
badly_on me (at running a n) (Next s) w t own m = tt
badly_on me (at running a n) (Complete s) w t own m = tt
badly_on me (at running a n) (Error s c) w t own m = tt
badly_on me (at running a n) (Request s (pos zero)) w t own m = last_stands me is_bad_request t w (Request s (pos zero)) own refl
badly_on me (at running a n) (Request s (pos (suc k))) w t own m = tt
badly_on me (at running a n) (Request s (negsuc k)) w t own m = last_stands me is_bad_request t w (Request s (negsuc k)) own refl
badly_on me (at running a n) (Cancel s) w t own m = tt
badly_on me (at refusing a n) (Error s c) w t own m = tt
badly_on me (at ending a n) (Exit s) w t own m = tt
badly_on me (at over a n) (Request s r) w t own m = tt
badly_on me (at over a n) (Cancel s) w t own m = tt
badly_on me _ e w t own m = absurd m

is_that_error : (s : ℕ) (c : Cause) → is_bad_request_error (Error s c) ≡ true → c ≡ NonPositiveRequest
is_that_error s NonPositiveRequest h = refl
is_that_error s c h = absurd (cc)

error_requested : (me : ℕ) (p : Progress) (e : Event) (t : List Stamped) → May p e → is_bad_request_error e ≡ true → HasRequestedBadly me p t → Stands (of me is_bad_request) t
error_requested me (at running a n) (Error s c) t m is o = absurd (m (is_that_error s c is))
error_requested me (at refusing a n) (Error s c) t m is o = o
error_requested me p (Error s c) t m is o = absurd m
error_requested me p e t m is o = absurd (cc)

badly_beside : (me : ℕ) (p : Progress) (t : List Stamped) (e : Stamped) → HasRequestedBadly me p t → HasRequestedBadly me p (t ++ e ∷ [])
badly_beside me (at refusing a n) t e o = stands-old (of me is_bad_request) t e o
badly_beside me _ t e o = tt

abbrev pub KeepsErrors : ℕ → Progress → List Stamped → Type 0
KeepsErrors me p t = HasRequestedBadly me p t × EachAfter (of me is_bad_request) (of me is_bad_request_error) t

pub errors_kept : (me : ℕ) → IsKeptBy me (KeepsErrors me)
errors_kept me = record {
  own = λ p t e goes k. (
    badly_on me p e.event e.worker t goes.own goes.may,
    each_after-more (of me is_bad_request) (of me is_bad_request_error) t e k.1 (λ new. error_requested me p e.event t goes.may (of_kind me is_bad_request_error e.worker e.event new) k.0),
  );
  other = λ p t e ne k. (badly_beside me p t e k.0, each_after-other is_bad_request is_bad_request_error me t e ne k.1);
}

pub errors_first : (me : ℕ) → KeepsErrors me (at fresh 0 0) []
errors_first me = (tt, each_after-none (of me is_bad_request) (of me is_bad_request_error))
