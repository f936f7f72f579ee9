-- How one subscription goes on: what a request, a cancel and a delivery record.
use Rattle.rsx_verify.specs.Prelude.{Event, IsCancelled, IsRequested, NonPositiveRequest, Signal, Stamped, Subscription, answered, any_machine, event_of, saturating_total, stamped, stamped_on, subscriber, subscriber_of}
use Rattle.std.proofs.Common.{◌≡◌, ◌≢◌, ℕ, ℤ, zero, suc, pos, negsuc, ◌+◌, ◌<◌, Bool, true, false, List, [], ◌∷◌, Option, Some, None, Ok, Err, inl, refl, sym, ap, ◌∙◌, subst, arith}
use Rattle.std.specs.Prelude.{nat_lt, if◌then◌else◌}
use Rattle.std.proofs.lemmas.Bool.{ltb-true}
use Rattle.rsx_demand.specs.declared.Demand.{Demand}
use Rattle.rsx_types.specs.declared.signal.Signal.TheVariants.{Next, Complete, Error}
use Rattle.rsx_subscription.specs.Table.{answer, asked_after, cell_of, sent_after, state_after}
use Rattle.rsx_subscription.specs.declared.State.{State}
use Rattle.rsx_subscription.specs.declared.State.TheVariants.{Fresh, Open as StateOpen, Cancelled as StateCancelled, Done, Failed}
use Rattle.rsx_subscription.specs.declared.Effect.TheVariants.{Deliver}
use Rattle.rsx_subscription.specs.declared.Refusal.TheVariants.{Overrun}
use Rattle.rsx_subscriber.specs.Prelude.{IsShut, request_answer, delivers, input_of, is_delivery, standing, IsKeptBeside, IsTake, standing_of}
use Rattle.rsx_graph_state.specs.Prelude.{SubscriptionState}
use Rattle.rsx_subscriber.specs.declared.state.SubscriptionState.TheVariants.{Open, Ended, Cancelled, Refused}
use Rattle.rsx_tck.specs.declared.event.Event.TheVariants as event
use Rattle.rsx_verify.proofs.Progress.{Progress, at, receiving, running, refusing, ending, over, after, May, Goes, GoesOn}

-- no signal is the error of a bad request
abbrev pub IsClean : {T : Type 0} → List (Signal T) → Type 0
IsClean [] = Unit {0}
IsClean (Next x ∷ l) = IsClean l
IsClean (Complete ∷ l) = IsClean l
IsClean (Error c ∷ l) = (c ≢ NonPositiveRequest) × IsClean l

-- a subscription that stands so, with this demand, is where the events have led
abbrev pub FitsIn : Progress → SubscriptionState → ℕ → ℕ → Type 0
FitsIn (at running a n) s asked sent = (s ≡ Open) × (asked ≡ a) × (sent ≡ n)
FitsIn (at over a n) s asked sent = s ≡ Open → ⊥
FitsIn _ s asked sent = ⊥

abbrev pub Fits : {T : Type 0} → Progress → Subscription T → Type 0
Fits p sub = FitsIn p (standing_of sub) sub.demand.asked sub.demand.sent

-- these events lead to where a subscription stands
pub record Leads (me : ℕ) (p : Progress) (t : List Stamped) (s : SubscriptionState) (asked sent : ℕ) : Type 0 where
  pub last : Progress
  pub goes : GoesOn me p t last
  pub fits : FitsIn last s asked sent

abbrev pub Comes : {T : Type 0} → ℕ → Progress → List Stamped → Subscription T → Type 0
Comes me p t sub = Leads me p t (standing_of sub) sub.demand.asked sub.demand.sent

pub event_goes : {w : ℕ} (me : ℕ) (p : Progress) (e : Event) → subscriber_of e ≡ me → May p e → Goes me p (stamped_on w e)
event_goes me p e own m = record { own = own; may = m }

-- ---- requests and cancels

shut_refused : {T : Type 0} (old new : Subscription T) → IsShut any_machine old Failed new → standing_of new ≡ Open → ⊥
shut_refused old new shut o =
    let is : standing_of new ≡ Refused = ap (λ s. standing s new.live) shut.state ∙ ap (λ l. standing Failed l) shut.live in absurd (cc)

shut_cancelled : {T : Type 0} (old new : Subscription T) → IsShut any_machine old StateCancelled new → standing_of new ≡ Open → ⊥
shut_cancelled old new shut o = let is : standing_of new ≡ Cancelled = ap (λ s. standing s new.live) shut.state in absurd (cc)

-- a request of a subscription that isn't open
late_request : {T : Type 0} (me : ℕ) (n : ℤ) (p : Progress) (old new : Subscription T) (o : Option (Signal T)) → (standing_of old ≡ Open → ⊥) → new ≡ old → o ≡ None → Fits p old → Comes me p (stamped (event.Request me n) ∷ answered (subscriber me) o) new
late_request me n (at running a k) old new o closed same e fits = absurd (closed fits.0)
late_request {T} me n (at over a k) old new o closed same e fits =
    let A : Option (Signal T) → Type 0 = λ x. Comes me (at over a k) (stamped (event.Request me n) ∷ answered (subscriber me) x) new in
    let F : Subscription T → Type 0 = λ x. standing_of x ≡ Open → ⊥ in
    subst A (sym e) (record { last = at over a k; goes = inl (event_goes me (at over a k) (event.Request me n) refl tt, refl); fits = subst F (sym same) closed })
late_request me n _ old new o closed same e fits = absurd fits

-- a bad one of an open subscription
bad_request : {T : Type 0} (me : ℕ) (n : ℤ) (a k : ℕ) (old new : Subscription T) (o : Option (Signal T)) → after (at running a k) (event.Request me n) ≡ at refusing a k → IsShut any_machine old Failed new → o ≡ Some (Error NonPositiveRequest) → Comes me (at running a k) (stamped (event.Request me n) ∷ answered (subscriber me) o) new
bad_request {T} me n a k old new o leads shut e =
    let A : Option (Signal T) → Type 0 = λ x. Comes me (at running a k) (stamped (event.Request me n) ∷ answered (subscriber me) x) new in
    let bad : Option (Signal T) = Some (Error NonPositiveRequest) in
    let P : Progress → Type 0 = λ p. GoesOn me p (answered (subscriber me) bad) (at over a k) in
    let rest : P (at refusing a k) = inl (event_goes me (at refusing a k) (event.Error me NonPositiveRequest) refl refl, inl (event_goes me (at ending a k) (event.Exit me) refl tt, refl)) in
    subst A (sym e) (record { last = at over a k; goes = inl (event_goes me (at running a k) (event.Request me n) refl tt, subst P (sym leads) rest); fits = shut_refused old new shut })

pub requested_comes : {T : Type 0} (me : ℕ) (s : SubscriptionState) (n : ℤ) (p : Progress) (old new : Subscription T) (o : Option (Signal T)) → standing_of old ≡ s → IsRequested s n old new → o ≡ request_answer s n → Fits p old →
    Comes me p (stamped (event.Request me n) ∷ answered (subscriber me) o) new
requested_comes me Open (pos zero) (at running a k) old new o is effect e fits = bad_request me (pos zero) a k old new o refl effect e
requested_comes me Open (negsuc j) (at running a k) old new o is effect e fits = bad_request me (negsuc j) a k old new o refl effect e
requested_comes {T} me Open (pos (suc j)) (at running a k) old new o is effect e fits =
    let A : Option (Signal T) → Type 0 = λ x. Comes me (at running a k) (stamped (event.Request me (pos (suc j))) ∷ answered (subscriber me) x) new in
    let same : standing_of new ≡ standing_of old = ap (λ s. standing s new.live) effect.state ∙ ap (λ l. standing old.state l) effect.live in
    subst A (sym e) (record {
      last = at running (saturating_total a (suc j)) k;
      goes = inl (event_goes me (at running a k) (event.Request me (pos (suc j))) refl tt, refl);
      fits = (same ∙ is, effect.requested ∙ ap (λ x. saturating_total x (suc j)) fits.1, effect.delivered ∙ fits.2);
    })
requested_comes me Open n (at over a k) old new o is effect e fits = absurd (fits is)
requested_comes me Open n _ old new o is effect e fits = absurd fits
requested_comes me Ended n p old new o is effect e fits = late_request me n p old new o (λ g. absurd (cc)) effect e fits
requested_comes me Cancelled n p old new o is effect e fits = late_request me n p old new o (λ g. absurd (cc)) effect e fits
requested_comes me Refused n p old new o is effect e fits = late_request me n p old new o (λ g. absurd (cc)) effect e fits

late_cancel : {T : Type 0} (me : ℕ) (p : Progress) (old new : Subscription T) → (standing_of old ≡ Open → ⊥) → new ≡ old → Fits p old → Comes me p (stamped (event.Cancel me) ∷ []) new
late_cancel me (at running a k) old new closed same fits = absurd (closed fits.0)
late_cancel {T} me (at over a k) old new closed same fits =
    let F : Subscription T → Type 0 = λ x. standing_of x ≡ Open → ⊥ in
    record { last = at over a k; goes = inl (event_goes me (at over a k) (event.Cancel me) refl tt, refl); fits = subst F (sym same) closed }
late_cancel me _ old new closed same fits = absurd fits

pub cancelled_comes : {T : Type 0} (me : ℕ) (s : SubscriptionState) (p : Progress) (old new : Subscription T) → standing_of old ≡ s → IsCancelled s old new → Fits p old → Comes me p (stamped (event.Cancel me) ∷ []) new
cancelled_comes me Open (at running a k) old new is effect fits =
    record { last = at over a k; goes = inl (event_goes me (at running a k) (event.Cancel me) refl tt, refl); fits = shut_cancelled old new effect }
cancelled_comes me Open (at over a k) old new is effect fits = absurd (fits is)
cancelled_comes me Open _ old new is effect fits = absurd fits
cancelled_comes me Ended p old new is effect fits = late_cancel me p old new (λ g. absurd (cc)) effect fits
cancelled_comes me Cancelled p old new is effect fits = late_cancel me p old new (λ g. absurd (cc)) effect fits
cancelled_comes me Refused p old new is effect fits = late_cancel me p old new (λ g. absurd (cc)) effect fits

-- ---- moves

-- a move that delivers nothing
pub fits_kept : {T : Type 0} (p : Progress) (old new : Subscription T) → IsKeptBeside old new → Fits p old → Fits p new
fits_kept p old new kept fits =
    let same : standing_of new ≡ standing_of old = ap (λ s. standing s new.live) kept.state ∙ ap (λ l. standing old.state l) kept.live in
    let S : SubscriptionState → Type 0 = λ s. FitsIn p s old.demand.asked old.demand.sent in
    let D : Demand → Type 0 = λ d. FitsIn p (standing_of new) d.asked d.sent in
    subst D (sym kept.demand) (subst S (sym same) fits)

delivers_item : (b : Bool) → is_delivery (if b then Ok Deliver else Err Overrun) ≡ true → b ≡ true
delivers_item true h = refl
delivers_item false h = absurd (cc)

failed_closed : (live : Bool) → standing Failed live ≡ Open → ⊥
failed_closed true o = absurd (cc)
failed_closed false o = absurd (cc)

-- a delivery, by where the subscription stood in the table
taken : {T : Type 0} (w me : ℕ) (st st' : State) (live : Bool) (d : Demand) (asked sent : ℕ) (x : Signal T) (p : Progress) (i : ℕ) → i ≡ me → is_delivery (answer (cell_of st (input_of x)) d) ≡ true →
    st' ≡ state_after (cell_of st (input_of x)) st → asked ≡ asked_after (cell_of st (input_of x)) d → sent ≡ sent_after (cell_of st (input_of x)) d → FitsIn p (standing st live) d.asked d.sent → IsClean (x ∷ []) →
    Leads me p (stamped_on w (event_of i x) ∷ stamped_on w (event.Exit i) ∷ []) (standing st' live) asked sent
taken w me StateOpen st' live d asked sent (Next x) (at running a k) i own del to ask given fits clean =
    let test : nat_lt d.sent d.asked ≡ true = delivers_item (nat_lt d.sent d.asked) del in
    let lt : d.sent < d.asked = ltb-true d.sent d.asked test in
    record {
      last = at running a (k + 1);
      goes = inl (event_goes me (at running a k) (event.Next i) own (omega (arith, lt, fits.1, fits.2)), inl (event_goes me (at receiving a (k + 1)) (event.Exit i) own tt, refl));
      fits = (ap (λ s. standing s live) to, ask ∙ fits.1, given ∙ ap (λ b. if b then d.sent + 1 else d.sent) test ∙ ap (λ n. n + 1) fits.2);
    }
taken w me StateOpen st' live d asked sent Complete (at running a k) i own del to ask given fits clean = record {
  last = at over a k;
  goes = inl (event_goes me (at running a k) (event.Complete i) own tt, inl (event_goes me (at ending a k) (event.Exit i) own tt, refl));
  fits = λ o. let is : standing st' live ≡ Ended = ap (λ s. standing s live) to in absurd (cc);
}
taken w me StateOpen st' live d asked sent (Error c) (at running a k) i own del to ask given fits clean = record {
  last = at over a k;
  goes = inl (event_goes me (at running a k) (event.Error i c) own clean.0, inl (event_goes me (at ending a k) (event.Exit i) own tt, refl));
  fits = λ o. failed_closed live (sym (ap (λ s. standing s live) to) ∙ o);
}
taken w me StateOpen st' live d asked sent x (at over a k) i own del to ask given fits clean = absurd (fits refl)
taken w me StateOpen st' live d asked sent x _ i own del to ask given fits clean = absurd fits
taken w me Fresh st' live d asked sent (Next x) p i own del to ask given fits clean = absurd (cc)
taken w me Fresh st' live d asked sent Complete p i own del to ask given fits clean = absurd (cc)
taken w me Fresh st' live d asked sent (Error c) p i own del to ask given fits clean = absurd (cc)
taken w me StateCancelled st' live d asked sent (Next x) p i own del to ask given fits clean = absurd (cc)
taken w me StateCancelled st' live d asked sent Complete p i own del to ask given fits clean = absurd (cc)
taken w me StateCancelled st' live d asked sent (Error c) p i own del to ask given fits clean = absurd (cc)
taken w me Done st' live d asked sent (Next x) p i own del to ask given fits clean = absurd (cc)
taken w me Done st' live d asked sent Complete p i own del to ask given fits clean = absurd (cc)
taken w me Done st' live d asked sent (Error c) p i own del to ask given fits clean = absurd (cc)
taken w me Failed st' live d asked sent (Next x) p i own del to ask given fits clean = absurd (cc)
taken w me Failed st' live d asked sent Complete p i own del to ask given fits clean = absurd (cc)
taken w me Failed st' live d asked sent (Error c) p i own del to ask given fits clean = absurd (cc)

pub delivered_comes : {T : Type 0} (w me : ℕ) (p : Progress) (i : ℕ) (x : Signal T) (old new : Subscription T) → i ≡ me → delivers old.state old.demand old.queue ≡ true → IsTake old x new → Fits p old → IsClean (x ∷ []) →
    Comes me p (stamped_on w (event_of i x) ∷ stamped_on w (event.Exit i) ∷ []) new
delivered_comes {T} w me p i x old new own del take fits clean =
    let L : Bool → Type 0 = λ l. Leads me p (stamped_on w (event_of i x) ∷ stamped_on w (event.Exit i) ∷ []) (standing new.state l) new.demand.asked new.demand.sent in
    subst L (sym take.live) (taken w me old.state new.state old.live old.demand new.demand.asked new.demand.sent x p i own (sym (ap (λ q. delivers old.state old.demand q) take.queue) ∙ del) take.state take.requested take.delivered fits clean)
