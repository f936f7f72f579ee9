-- How a subscription goes on, event by event, beside others.
use Rattle.std.proofs.Common.{◌≡◌, ◌≢◌, ℕ, ℤ, ◌⊎◌, inl, inr, zero, suc, pos, negsuc, ◌+◌, ◌<◌, List, [], ◌∷◌, ◌++◌, take, sym, subst, append_assoc}
use Rattle.std.proofs.lemmas.List.{append-nil}
use Rattle.rsx_verify.specs.Prelude.{Event, NonPositiveRequest, Stamped, saturating_total, subscriber_of}
use Rattle.rsx_tck.specs.declared.event.Event.TheVariants.{Subscribe, OnSubscribe, Next, Complete, Error, Exit, Request, Cancel, CancelNew}

-- what comes next: nothing has happened; OnSubscribe; the Exit of OnSubscribe or of an item; any signal; the error of a bad
-- request; the Exit of an ending; nothing any more
pub data Phase : Type 0 where
  fresh : Phase
  subscribed : Phase
  receiving : Phase
  running : Phase
  refusing : Phase
  ending : Phase
  over : Phase

-- the phase, how many items were asked for, and how many delivered
pub data Progress : Type 0 where
  at : Phase → ℕ → ℕ → Progress

-- a request of an running subscription
abbrev pub after_request : ℤ → ℕ → ℕ → Progress
after_request (pos zero) a n = at refusing a n
after_request (pos (suc k)) a n = at running (saturating_total a (suc k)) n
after_request (negsuc k) a n = at refusing a n

-- what an event leads to
abbrev pub after : Progress → Event → Progress
after (at p a n) (Subscribe s) = at subscribed a n
after (at p a n) (OnSubscribe s) = at receiving a n
after (at p a n) (Next s) = at receiving a (n + 1)
after (at p a n) (Complete s) = at ending a n
after (at p a n) (Error s c) = at ending a n
after (at receiving a n) (Exit s) = at running a n
after (at p a n) (Exit s) = at over a n
after (at running a n) (Request s r) = after_request r a n
after (at p a n) (Request s r) = at p a n
after (at p a n) (Cancel s) = at over a n
after (at p a n) (CancelNew s) = at p a n

-- which events there are
abbrev pub May : Progress → Event → Type 0
May (at fresh a n) (Subscribe s) = Unit {0}
May (at subscribed a n) (OnSubscribe s) = Unit {0}
May (at receiving a n) (Exit s) = Unit {0}
May (at running a n) (Next s) = n < a
May (at running a n) (Complete s) = Unit {0}
May (at running a n) (Error s c) = c ≢ NonPositiveRequest
May (at running a n) (Request s r) = Unit {0}
May (at running a n) (Cancel s) = Unit {0}
May (at refusing a n) (Error s c) = c ≡ NonPositiveRequest
May (at ending a n) (Exit s) = Unit {0}
May (at over a n) (Request s r) = Unit {0}
May (at over a n) (Cancel s) = Unit {0}
May _ _ = ⊥

-- an event that this subscriber may have
pub record Goes (me : ℕ) (p : Progress) (e : Stamped) : Type 0 where
  pub own : subscriber_of e.event ≡ me
  pub may : May p e.event

-- these events, of this subscriber and of others, lead it from one to the other
abbrev pub GoesOn : ℕ → Progress → List Stamped → Progress → Type 0
GoesOn me p [] q = q ≡ p
GoesOn me p (e ∷ es) q = (Goes me p e × GoesOn me (after p e.event) es q) ⊎ ((subscriber_of e.event ≢ me) × GoesOn me p es q)

pub goes_further : (me : ℕ) (p q r : Progress) (t u : List Stamped) → GoesOn me p t q → GoesOn me q u r → GoesOn me p (t ++ u) r
goes_further me p q r [] u same on = subst (λ x. GoesOn me x u r) same on
goes_further me p q r (e ∷ t) u (inl (goes, on)) further = inl (goes, goes_further me (after p e.event) q r t u on further)
goes_further me p q r (e ∷ t) u (inr (other, on)) further = inr (other, goes_further me p q r t u on further)

-- what one event more keeps, be it of this subscriber or of another
pub record IsKeptBy (me : ℕ) (K : Progress → List Stamped → Type 0) : Type 0 where
  pub own : (p : Progress) (t : List Stamped) (e : Stamped) → Goes me p e → K p t → K (after p e.event) (t ++ e ∷ [])
  pub other : (p : Progress) (t : List Stamped) (e : Stamped) → subscriber_of e.event ≢ me → K p t → K p (t ++ e ∷ [])

prefix_behind : (me : ℕ) (K : Progress → List Stamped → Type 0) → IsKeptBy me K → (p q : Progress) (t u : List Stamped) → GoesOn me p u q → K p t → (j : ℕ) → (r : Progress) × K r (t ++ take j u)
prefix_behind me K step p q t [] on k zero = (p, subst (K p) (sym (append-nil t)) k)
prefix_behind me K step p q t [] on k (suc j) = (p, subst (K p) (sym (append-nil t)) k)
prefix_behind me K step p q t (e ∷ u) on k zero = (p, subst (K p) (sym (append-nil t)) k)
prefix_behind me K step p q t (e ∷ u) (inl (goes, on)) k (suc j) =
    let rest = prefix_behind me K step (after p e.event) q (t ++ e ∷ []) u on (step.own p t e goes k) j in
    (rest.0, subst (K rest.0) (append_assoc t (e ∷ []) (take j u)) rest.1)
prefix_behind me K step p q t (e ∷ u) (inr (other, on)) k (suc j) =
    let rest = prefix_behind me K step p q (t ++ e ∷ []) u on (step.other p t e other k) j in
    (rest.0, subst (K rest.0) (append_assoc t (e ∷ []) (take j u)) rest.1)

-- it holds of each list of the first events
pub each_prefix : (me : ℕ) (K : Progress → List Stamped → Type 0) → IsKeptBy me K → K (at fresh 0 0) [] → (q : Progress) (t : List Stamped) → GoesOn me (at fresh 0 0) t q → (j : ℕ) → (r : Progress) × K r (take j t)
each_prefix me K step first q t on j = prefix_behind me K step (at fresh 0 0) q [] t on first j
