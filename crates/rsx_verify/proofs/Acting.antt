-- What is recorded of a run goes on, for each subscriber, as one subscription does.
use Rattle.rsx_verify.specs.Prelude.{Accept, Act, Acted, AllHold, AllStand, AreValues, Ask, Feed, GraphStands, GraphState, Holds, IsActed, IsActedAs, IsBegun, IsCancelOf, IsFollowed, IsFresh, IsProcessed, IsProcessing, IsPumpOf, IsRecorded, IsRequestOf, IsValue, Made, Meaning, Move, NonPositiveRequest, Pick, Row, Send, Signal, Stamped, SubId, Subscription, Take, after_moves, answered, any_machine, beginning, delivered_by, notes_of, reader, stamped, subscriber}
use Rattle.rsx_graph.proofs.Laws.{any_laws}
use Rattle.std.proofs.Common.{◌≡◌, ◌≢◌, ℕ, ℤ, zero, suc, List, [], ◌∷◌, ◌++◌, map, Option, Some, None, inl, inr, refl, sym, ap, ◌∙◌, subst, append_assoc, arith}
use Rattle.std.specs.Prelude.{slice_get, slice_set}
use Rattle.std.specs.List.{All, flat_map}
use Rattle.std.specs.Option.{option_to_list}
use Rattle.std.proofs.lemmas.Bool.{cases_eq}
use Rattle.std.proofs.lemmas.List.{append-nil}
use Rattle.std.proofs.lemmas.List.Elements.{All-nil, All-push}
use Rattle.std.proofs.lemmas.Option.{same_Some}
use Rattle.rsx_types.specs.Stream.{Stream, ending_signals}
use Rattle.rsx_types.specs.declared.names.Tree.{Tree}
use Rattle.rsx_types.specs.declared.names.Tree.TheVariants.{Sub, Feed as FeedOf}
use Rattle.rsx_types.specs.declared.signal.Ending.{Ending}
use Rattle.rsx_types.specs.declared.signal.Ending.TheVariants as stream
use Rattle.rsx_types.specs.declared.signal.Signal.TheVariants.{Next, Complete, Error}
use Rattle.rsx_subscriber.specs.Prelude.{environment, Expr, region_of, Past, given, standing, standing_of}
use Rattle.rsx_model.proofs.Laws.{never_a_bad_request_law}
use Rattle.rsx_graph_state.specs.Prelude.{Ended, changed, History, HubPast, Source, accepted_at, emitted, fed, sent_at, with_made, with_moved}
use Rattle.rsx_graph_state.proofs.Values.{whole_holds}
use Rattle.rsx_tck.specs.declared.event.Event.TheVariants as event
use Rattle.rsx_verify.specs.declared.act.Act.TheVariants.{Request, Cancel, Pump}
use Rattle.rsx_tree.proofs.Runs.{leads_add}
use Rattle.rsx_verify.proofs.Moving.{FitsAt, Steps, after_given, at_set, beside_set, clean_parts, IsElsewhere, lead_steps, moves_past, other_delivery, steps_come, to, to_on, to_other}
use Rattle.rsx_verify.proofs.Progress.{Progress, at, fresh, subscribed, receiving, running, GoesOn, goes_further}
use Rattle.rsx_verify.proofs.Subscribed.{IsClean, cancelled_comes, event_goes, requested_comes}

-- ---- hubs that are fed

abbrev pub IsFedOne : {T : Type 0} → Source T → Type 0
IsFedOne (emitted w) = ⊥
IsFedOne (fed e joins) = Unit {0}

-- each hub has a feed
abbrev pub AreFed : {T : Type 0} → List (HubPast T) → Type 0
AreFed [] = Unit {0}
AreFed (p ∷ ps) = IsFedOne p.source × AreFed ps

fed_changed : {T : Type 0} (f : HubPast T → HubPast T) → ((p : HubPast T) → (f p).source ≡ p.source) → (ps : List (HubPast T)) (i : ℕ) → AreFed ps → AreFed (changed f ps i)
fed_changed f same [] zero h = tt
fed_changed f same [] (suc i) h = tt
fed_changed {T} f same (p ∷ ps) zero h = (subst (λ (s : Source T). IsFedOne s) (sym (same p)) h.0, h.1)
fed_changed f same (p ∷ ps) (suc i) h = (h.0, fed_changed f same ps i h.1)

fed_moved : {T : Type 0} (t : Tree) (o : Option (SubId × Signal T)) (s : Option (Signal T)) (h : History T) → AreFed h.hubs → AreFed (with_moved t o s h).hubs
fed_moved (Sub i) None s h all = all
fed_moved (Sub i) (Some d) s h all = all
fed_moved (FeedOf i) o None h all = all
fed_moved (FeedOf i) o (Some s) h all = fed_changed (sent_at s) (λ p. refl) h.hubs i.0 all

fed_made : {T : Type 0} (mv : Move) (o : Option (SubId × Signal T)) (s : Option (Signal T)) (h : History T) → AreFed h.hubs → AreFed (with_made mv o s h).hubs
fed_made (Ask t n) o s h all = fed_moved t o s h all
fed_made (Send t n) o s h all = fed_moved t o s h all
fed_made (Take t n) o s h all = fed_moved t o s h all
fed_made (Pick t n k) o s h all = fed_moved t o s h all
fed_made (Row t n) o s h all = fed_moved t o s h all
fed_made (Accept i) o s h all = fed_changed accepted_at (λ p. refl) h.hubs i.0 all

fed_after : {T : Type 0} (h : History T) (moves : List (Made T)) → AreFed h.hubs → AreFed (after_moves h moves).hubs
fed_after h [] all = all
fed_after h (d ∷ ds) all = fed_after (with_made d.move d.delivered d.fed h) ds (fed_made d.move d.delivered d.fed h all)

-- ---- no expression ends with the error of a bad request

abbrev pub IsFine : {T : Type 0} → Stream T → Type 0
IsFine v = v.ending ≢ stream.Failed NonPositiveRequest

fine_more : {T : Type 0} (xs : List (Stream T)) (v : Stream T) → All (λ (x : Stream T). IsFine x) xs → IsFine v → All (λ (x : Stream T). IsFine x) (xs ++ v ∷ [])
fine_more {T} xs v all one = All-push (λ (x : Stream T). IsFine x) xs v all one

value_fine : {T : Type 0} (m : Meaning T) (feeds : List (Feed T)) (before : List (Stream T)) (s : Source T) (v : Stream T) → IsFedOne s → All (λ (x : Stream T). IsFine x) before → IsValue m feeds before s v → IsFine v
value_fine m feeds before (emitted w) v one all value = absurd one
value_fine m feeds before (fed e joins) v one all value = never_a_bad_request_law (environment m before joins (notes_of value.0.part.tree)) e all v value.2

values_fine : {T : Type 0} (m : Meaning T) (feeds : List (Feed T)) (before : List (Stream T)) (ps : List (HubPast T)) (vs : List (Stream T)) → AreFed ps → All (λ (x : Stream T). IsFine x) before → AreValues m feeds before ps vs → All (λ (x : Stream T). IsFine x) (before ++ vs)
values_fine {T} m feeds before [] vs sources all values = subst (λ (l : List (Stream T)). All (λ (x : Stream T). IsFine x) l) (sym (ap (λ l. before ++ l) values ∙ append-nil before)) all
values_fine m feeds before (p ∷ ps) [] sources all values = absurd values
values_fine {T} m feeds before (p ∷ ps) (v ∷ vs) sources all (value, rest) =
    let one = value_fine m feeds before p.source v sources.0 all value in
    subst (λ (l : List (Stream T)). All (λ (x : Stream T). IsFine x) l) (append_assoc before (v ∷ []) vs) (values_fine m feeds (before ++ v ∷ []) ps vs sources.1 (fine_more before v all one) rest)

ended_stays : {T : Type 0} (ss : List (Signal T)) (p : Past T) → p.state ≡ Ended → (after_given ss p).state ≡ Ended
ended_stays [] p e = e
ended_stays (Next x ∷ ss) p e = ended_stays ss (given (Next x) p) e
ended_stays (Complete ∷ ss) p e = ended_stays ss (given Complete p) refl
ended_stays (Error c ∷ ss) p e = ended_stays ss (given (Error c) p) refl

-- only an ending could be one, and the subscriber stands ended behind it
clean_or_ended : {T : Type 0} (ss : List (Signal T)) (p : Past T) → ((after_given ss p).state ≡ Ended → IsClean ss) → IsClean ss
clean_or_ended [] p h = tt
clean_or_ended (Next x ∷ ss) p h = clean_or_ended ss (given (Next x) p) h
clean_or_ended (Complete ∷ ss) p h = h (ended_stays ss (given Complete p) refl)
clean_or_ended (Error c ∷ ss) p h = h (ended_stays ss (given (Error c) p) refl)

received_after : {T : Type 0} (ss : List (Signal T)) (p : Past T) → (after_given ss p).received ≡ p.received ++ ss
received_after [] p = sym (append-nil p.received)
received_after (s ∷ ss) p = received_after ss (given s p) ∙ append_assoc p.received (s ∷ []) ss

clean_signals : {T : Type 0} (xs : List T) (e : Ending) → e ≢ stream.Failed NonPositiveRequest → IsClean (map Next xs ++ ending_signals e)
clean_signals [] stream.Open h = tt
clean_signals [] stream.Done h = tt
clean_signals [] (stream.Failed c) h = ((λ is. h (ap stream.Failed is)), tt)
clean_signals (x ∷ xs) e h = clean_signals xs e h

clean_whole : {T : Type 0} (m : Meaning T) (published : List (Stream T)) (sub : Subscription T) (past : Past T) → All (λ (x : Stream T). IsFine x) published → Holds m published sub past → past.state ≡ Ended → IsClean past.received
clean_whole {T} m published sub past fine h e =
    let law = never_a_bad_request_law (environment m published past.joins (notes_of sub.part.tree)) past.expression in
    subst (λ (l : List (Signal T)). IsClean l) (sym (h.whole e)) (clean_signals h.value.items h.value.ending (law fine h.value h.scratch.2))

-- ---- where a subscriber stands

hold_there : {T : Type 0} (m : Meaning T) (published : List (Stream T)) (subs : List (Subscription T)) (pasts : List (Past T)) (me : ℕ) (sub : Subscription T) → AllHold m published subs pasts → slice_get subs me ≡ Some sub →
    (past : Past T) × (slice_get pasts me ≡ Some past) × Holds m published sub past
hold_there m published [] pasts zero sub all there = absurd (cc)
hold_there m published [] pasts (suc me) sub all there = absurd (cc)
hold_there m published (x ∷ subs) [] me sub all there = absurd all
hold_there {T} m published (x ∷ subs) (p ∷ pasts) zero sub all there = (p, refl, subst (λ (s : Subscription T). Holds m published s p) (same_Some x sub there) all.0)
hold_there m published (x ∷ subs) (p ∷ pasts) (suc me) sub all there = hold_there m published subs pasts me sub all.1 there

past_of : {T : Type 0} (m : Meaning T) (published : List (Stream T)) (subs : List (Subscription T)) (pasts : List (Past T)) (me : ℕ) (sub : Subscription T) → AllStand m published subs pasts → slice_get subs me ≡ Some sub → (past : Past T) × (slice_get pasts me ≡ Some past)
past_of m published [] pasts zero sub all there = absurd (cc)
past_of m published [] pasts (suc me) sub all there = absurd (cc)
past_of m published (x ∷ subs) [] me sub all there = absurd all
past_of m published (x ∷ subs) (p ∷ pasts) zero sub all there = (p, refl)
past_of m published (x ∷ subs) (p ∷ pasts) (suc me) sub all there = past_of m published subs pasts me sub all.1 there

-- a run stands where its events have led this subscriber
pub record IsAt {T : Type 0} (m : Meaning T) (me : ℕ) (p : Progress) (g : GraphState T) : Type 0 where
  pub history : History T
  pub stands : GraphStands m g history
  pub fed : AreFed history.hubs
  pub fits : FitsAt p (slice_get g.rows.subs me)

abbrev pub IsLed : {T : Type 0} → Meaning T → ℕ → Progress → List Stamped → GraphState T → Type 0
IsLed m me p t g = (q : Progress) × GoesOn me p t q × IsAt m me q g

-- ---- moves

none_elsewhere : {T : Type 0} (me : ℕ) (moves : List (Made T)) (new : Option (Subscription T)) → Steps me moves None new → to me (delivered_by moves) ≡ []
none_elsewhere me [] new steps = refl
none_elsewhere {T} me (d ∷ ds) new (mid, (same, e), rest) =
    let more = none_elsewhere me ds new (subst (λ (o : Option (Subscription T)). Steps me ds o new) same rest) in
    to_on me (option_to_list d.delivered) (delivered_by ds) ∙ (ap (λ l. l ++ to me (delivered_by ds)) (elsewhere me d.delivered e) ∙ more)
  where
    elsewhere : {T : Type 0} (me : ℕ) (o : Option (SubId × Signal T)) → IsElsewhere me o → to me (option_to_list o) ≡ []
    elsewhere me None e = refl
    elsewhere me (Some d) e = to_other me d [] e

some_last : {T : Type 0} (me : ℕ) (moves : List (Made T)) (old : Subscription T) (new : Option (Subscription T)) → Steps me moves (Some old) new → (last : Subscription T) × (new ≡ Some last)
some_last me [] old new same = (old, same)
some_last {T} me (d ∷ ds) old new (mid, (next, same, step), rest) = some_last me ds next new (subst (λ (o : Option (Subscription T)). Steps me ds o new) same rest)

-- what was delivered to this subscriber has no error of a bad request
delivered_clean : {T : Type 0} (m : Meaning T) (me : ℕ) (old new : GraphState T) (t : List Stamped) (h : History T) (w : ℕ) (x : IsPumpOf m w old t new) (o : Option (Subscription T)) → slice_get old.rows.subs me ≡ o → GraphStands m old h → AreFed h.hubs →
    Steps me x.moves o (slice_get new.rows.subs me) → IsClean (to me (delivered_by x.moves))
delivered_clean {T} m me old new t h w x None there stands sources steps = subst (λ (l : List (Signal T)). IsClean l) (sym (none_elsewhere me x.moves (slice_get new.rows.subs me) steps)) tt
delivered_clean {T} m me old new t h w x (Some sub) there stands sources steps =
    let last = some_last me x.moves sub (slice_get new.rows.subs me) steps in
    let past = past_of m stands.rows.taken old.rows.subs h.pasts me sub stands.rows.all there in
    let after = x.stands h stands in
    let whole = whole_holds any_machine any_laws m new.rows (after_moves h x.moves) after.rows in
    let fine = values_fine m new.rows.feeds [] (after_moves h x.moves).hubs whole.published (fed_after h x.moves sources) (All-nil (λ (v : Stream T). IsFine v)) whole.values in
    let holds = hold_there m whole.published new.rows.subs (after_moves h x.moves).pasts me last.0 whole.all last.1 in
    let ss = to me (delivered_by x.moves) in
    let is : holds.0 ≡ after_given ss past.0 = same_Some holds.0 (after_given ss past.0) (sym holds.1 ∙ moves_past m me x.moves old.rows new.rows h past.0 x.lead past.1) in
    let holds' = subst (λ (p : Past T). Holds m whole.published last.0 p) is holds.2 in
    clean_or_ended ss past.0 (λ e. (clean_parts past.0.received ss (subst (λ (l : List (Signal T)). IsClean l) (received_after ss past.0) (clean_whole m whole.published last.0 (after_given ss past.0) fine holds' e))).1)

pumped_leads : {T : Type 0} (m : Meaning T) (me w : ℕ) (p : Progress) (old new : GraphState T) (t : List Stamped) → IsPumpOf m w old t new → IsAt m me p old → IsLed m me p t new
pumped_leads m me w p old new t x here =
    let steps = lead_steps m me x.moves old.rows new.rows x.lead in
    let clean = delivered_clean m me old new t here.history w x (slice_get old.rows.subs me) refl here.stands here.fed steps in
    let come = steps_come w me p x.moves (slice_get old.rows.subs me) (slice_get new.rows.subs me) steps here.fits clean in (
      come.0,
      subst (λ (l : List Stamped). GoesOn me p l come.0) (sym x.recorded) come.1,
      record { history = after_moves here.history x.moves; stands = x.stands here.history here.stands; fed = fed_after here.history x.moves here.fed; fits = come.2 },
    )

-- ---- requests and cancels

other_answered : {T : Type 0} (me : ℕ) (i : SubId) (p : Progress) (o : Option (Signal T)) → i.0 ≢ me → GoesOn me p (answered i o) p
other_answered me i p None ne = refl
other_answered me i p (Some s) ne = other_delivery 0 me p (i, s) ne

requested_leads : {T : Type 0} (m : Meaning T) (me : ℕ) (i : SubId) (n : ℤ) (p : Progress) (old new : GraphState T) (t : List Stamped) → IsRequestOf m i n old t new → IsAt m me p old → IsLed m me p t new
requested_leads {T} m me i n p old new t x here = elim (cases_eq i.0 me) [
  | inl is ↦ (let before : slice_get old.rows.subs me ≡ Some x.effect.old = ap (λ k. slice_get old.rows.subs k) (sym is) ∙ x.effect.there in
      let after : slice_get new.rows.subs me ≡ Some x.effect.new = ap (λ l. slice_get l me) x.effect.others ∙ (ap (λ k. slice_get (slice_set old.rows.subs i.0 x.effect.new) k) (sym is) ∙ at_set old.rows.subs i.0 x.effect.old x.effect.new x.effect.there) in
      let fits = subst (λ (o : Option (Subscription T)). FitsAt p o) before here.fits in
      let come = requested_comes me (standing_of x.effect.old) n p x.effect.old x.effect.new x.answer refl x.effect.effect x.effect.answer fits in
      let recorded : t ≡ stamped (event.Request me n) ∷ answered (subscriber me) x.answer = x.recorded ∙ ap (λ k. stamped (event.Request k n) ∷ answered (subscriber k) x.answer) is in
      let led : IsLed m me p t new = (
        come.last,
        subst (λ (l : List Stamped). GoesOn me p l come.last) (sym recorded) come.goes,
        record { history = _; stands = x.stands here.history here.stands; fed = here.fed; fits = subst (λ (o : Option (Subscription T)). FitsAt come.last o) (sym after) come.fits },
      ) in led)
  | inr ne ↦ (let after : slice_get new.rows.subs me ≡ slice_get old.rows.subs me = ap (λ l. slice_get l me) x.effect.others ∙ beside_set old.rows.subs i.0 me x.effect.new ne in
      let led : IsLed m me p t new = (
        p,
        subst (λ (l : List Stamped). GoesOn me p l p) (sym x.recorded) (inr (ne, other_answered me i p x.answer ne)),
        record { history = _; stands = x.stands here.history here.stands; fed = here.fed; fits = subst (λ (o : Option (Subscription T)). FitsAt p o) (sym after) here.fits },
      ) in led)
]

cancelled_leads : {T : Type 0} (m : Meaning T) (me : ℕ) (i : SubId) (p : Progress) (old new : GraphState T) (t : List Stamped) → IsCancelOf m i old t new → IsAt m me p old → IsLed m me p t new
cancelled_leads {T} m me i p old new t x here = elim (cases_eq i.0 me) [
  | inl is ↦ (let before : slice_get old.rows.subs me ≡ Some x.effect.old = ap (λ k. slice_get old.rows.subs k) (sym is) ∙ x.effect.there in
      let after : slice_get new.rows.subs me ≡ Some x.effect.new = ap (λ l. slice_get l me) x.effect.others ∙ (ap (λ k. slice_get (slice_set old.rows.subs i.0 x.effect.new) k) (sym is) ∙ at_set old.rows.subs i.0 x.effect.old x.effect.new x.effect.there) in
      let fits = subst (λ (o : Option (Subscription T)). FitsAt p o) before here.fits in
      let come = cancelled_comes me (standing_of x.effect.old) p x.effect.old x.effect.new refl x.effect.effect fits in
      let recorded : t ≡ stamped (event.Cancel me) ∷ [] = x.recorded ∙ ap (λ k. stamped (event.Cancel k) ∷ []) is in
      let led : IsLed m me p t new = (
        come.last,
        subst (λ (l : List Stamped). GoesOn me p l come.last) (sym recorded) come.goes,
        record { history = _; stands = x.stands here.history here.stands; fed = here.fed; fits = subst (λ (o : Option (Subscription T)). FitsAt come.last o) (sym after) come.fits },
      ) in led)
  | inr ne ↦ (let after : slice_get new.rows.subs me ≡ slice_get old.rows.subs me = ap (λ l. slice_get l me) x.effect.others ∙ beside_set old.rows.subs i.0 me x.effect.new ne in
      let led : IsLed m me p t new = (
        p,
        subst (λ (l : List Stamped). GoesOn me p l p) (sym x.recorded) (inr (ne, refl)),
        record { history = _; stands = x.stands here.history here.stands; fed = here.fed; fits = subst (λ (o : Option (Subscription T)). FitsAt p o) (sym after) here.fits },
      ) in led)
]

-- ---- runs

-- nothing happened, and nothing was recorded
passed_over : {T : Type 0} (m : Meaning T) (me : ℕ) (p : Progress) (old new : GraphState T) (t : List Stamped) → t ≡ [] → new ≡ old → IsAt m me p old → IsLed m me p t new
passed_over {T} m me p old new t none same here =
    (p, subst (λ (l : List Stamped). GoesOn me p l p) (sym none) refl, subst (λ (g : GraphState T). IsAt m me p g) (sym same) here)

acted_leads : {T : Type 0} (m : Meaning T) (me w : ℕ) (act : Act) (p : Progress) (old new : GraphState T) (t : List Stamped) → IsActed m w act old t new → IsAt m me p old → IsLed m me p t new
acted_leads m me w (Request i n) p old new t (inl x) here = requested_leads m me i n p old new t x here
acted_leads m me w (Request i n) p old new t (inr (past, none, same)) here = passed_over m me p old new t none same here
acted_leads m me w (Cancel i) p old new t (inl x) here = cancelled_leads m me i p old new t x here
acted_leads m me w (Cancel i) p old new t (inr (past, none, same)) here = passed_over m me p old new t none same here
acted_leads m me w Pump p old new t x here = pumped_leads m me w p old new t x here

-- a run that began so goes on
followed_goes : {T : Type 0} (m : Meaning T) (me w : ℕ) (acts : List Act) (old : GraphState T) (first t : List Stamped) → IsLed m me (at fresh 0 0) first old → IsFollowed m w old acts first t → (q : Progress) × GoesOn me (at fresh 0 0) t q
followed_goes {T} m me w acts old first t begun (g, run) =
    let rest = flat_map (λ (d : Acted). d.events) run.done in
    let P : GraphState T → List Stamped → GraphState T → Type 0 = λ a u b. (p : Progress) → IsAt m me p a → IsLed m me p u b in
    let further : (a b c : GraphState T) (u v : List Stamped) → P a u b → P b v c → P a (u ++ v) c =
    λ a b c u v x y p here. let one = x p here in let more = y one.0 one.2 in (more.0, goes_further me p one.0 more.0 u v one.1 more.1, more.2) in
    let led = leads_add (IsActedAs m w) (λ d. d.events) P (λ a b d acted p here. acted_leads m me w d.act p a b d.events acted here) (λ a p here. (p, refl, here)) further old g run.done run.lead begun.0 begun.2 in
    (led.0, subst (λ (l : List Stamped). GoesOn me (at fresh 0 0) l led.0) (sym run.recorded) (goes_further me (at fresh 0 0) begun.0 led.0 first rest begun.1 led.1))

-- ---- how a run begins, for its subscribers and for others

begins : (me : ℕ) → GoesOn me (at fresh 0 0) (beginning me) (at running 0 0)
begins me =
    inl (event_goes me (at fresh 0 0) (event.Subscribe me) refl tt, inl (event_goes me (at subscribed 0 0) (event.OnSubscribe me) refl tt, inl (event_goes me (at receiving 0 0) (event.Exit me) refl tt, refl)))

other_begins : (me i : ℕ) (p : Progress) → i ≢ me → GoesOn me p (beginning i) p
other_begins me i p ne = inr (ne, inr (ne, inr (ne, refl)))

-- a new subscription stands where its beginning has led
fresh_fits : {T : Type 0} (e : Expr T) (sub : Subscription T) → IsFresh e sub → FitsAt (at running 0 0) (Some sub)
fresh_fits e sub is = (ap (λ s. standing s sub.live) is.state, is.asked, is.delivered)

begun_leads : {T : Type 0} (m : Meaning T) (me : ℕ) (e : Expr T) (g : GraphState T) → IsBegun m e g → IsLed m me (at fresh 0 0) (beginning 0) g
begun_leads {T} m zero e g b =
    let sub = b.subscribed.0 in
    let only : slice_get g.rows.subs 0 ≡ Some sub = ap (λ l. slice_get l 0) b.subscribed.1 in (
      at running 0 0,
      begins 0,
      record { history = _; stands = b.stands; fed = tt; fits = subst (λ (o : Option (Subscription T)). FitsAt (at running 0 0) o) (sym only) (fresh_fits e sub b.subscribed.2) },
    )
begun_leads {T} m (suc me) e g b =
    let none : slice_get g.rows.subs (suc me) ≡ None = ap (λ l. slice_get l (suc me)) b.subscribed.1 in
    let other : 0 ≢ suc me = λ h. absurd (omega (arith, h)) in (
      at fresh 0 0,
      other_begins (suc me) 0 (at fresh 0 0) other,
      record { history = _; stands = b.stands; fed = tt; fits = subst (λ (o : Option (Subscription T)). FitsAt (at fresh 0 0) o) (sym none) refl },
    )

-- the subscriptions of a processor
both : {T : Type 0} (m : Meaning T) (e : Expr T) (g : GraphState T) (b : IsProcessing m e g) → g.rows.subs ≡ b.first.0 ∷ b.second.0 ∷ []
both m e g b = b.second.1 ∙ ap (λ l. l ++ b.second.0 ∷ []) b.first.1

processing_leads : {T : Type 0} (m : Meaning T) (me : ℕ) (e : Expr T) (g : GraphState T) → IsProcessing m e g → IsLed m me (at fresh 0 0) (beginning 0 ++ beginning 1) g
processing_leads {T} m zero e g b =
    let sub = b.first.0 in
    let there : slice_get g.rows.subs 0 ≡ Some sub = ap (λ l. slice_get l 0) (both m e g b) in
    let other : 1 ≢ 0 = λ h. absurd (omega (arith, h)) in (
      at running 0 0,
      goes_further 0 (at fresh 0 0) (at running 0 0) (at running 0 0) (beginning 0) (beginning 1) (begins 0) (other_begins 0 1 (at running 0 0) other),
      record { history = _; stands = b.stands; fed = (tt, tt); fits = subst (λ (o : Option (Subscription T)). FitsAt (at running 0 0) o) (sym there) (fresh_fits reader sub b.first.2) },
    )
processing_leads {T} m (suc zero) e g b =
    let sub = b.second.0 in
    let there : slice_get g.rows.subs 1 ≡ Some sub = ap (λ l. slice_get l 1) (both m e g b) in
    let other : 0 ≢ 1 = λ h. absurd (omega (arith, h)) in (
      at running 0 0,
      goes_further 1 (at fresh 0 0) (at fresh 0 0) (at running 0 0) (beginning 0) (beginning 1) (other_begins 1 0 (at fresh 0 0) other) (begins 1),
      record { history = _; stands = b.stands; fed = (tt, tt); fits = subst (λ (o : Option (Subscription T)). FitsAt (at running 0 0) o) (sym there) (fresh_fits reader sub b.second.2) },
    )
processing_leads {T} m (suc (suc me)) e g b =
    let none : slice_get g.rows.subs (suc (suc me)) ≡ None = ap (λ l. slice_get l (suc (suc me))) (both m e g b) in
    let zeroth : 0 ≢ suc (suc me) = λ h. absurd (omega (arith, h)) in
    let first : 1 ≢ suc (suc me) = λ h. absurd (omega (arith, h)) in (
      at fresh 0 0,
      goes_further (suc (suc me)) (at fresh 0 0) (at fresh 0 0) (at fresh 0 0) (beginning 0) (beginning 1) (other_begins (suc (suc me)) 0 (at fresh 0 0) zeroth) (other_begins (suc (suc me)) 1 (at fresh 0 0) first),
      record { history = _; stands = b.stands; fed = (tt, tt); fits = subst (λ (o : Option (Subscription T)). FitsAt (at fresh 0 0) o) (sym none) refl },
    )

pub recorded_goes : {T : Type 0} (m : Meaning T) (me : ℕ) (e : Expr T) (acts : List Act) (t : List Stamped) → IsRecorded m e acts t → (q : Progress) × GoesOn me (at fresh 0 0) t q
recorded_goes m me e acts t (g, (begun, followed)) = followed_goes m me (region_of e) acts g (beginning 0) t (begun_leads m me e g begun) followed

pub processed_goes : {T : Type 0} (m : Meaning T) (me : ℕ) (e : Expr T) (acts : List Act) (t : List Stamped) → IsProcessed m e acts t → (q : Progress) × GoesOn me (at fresh 0 0) t q
processed_goes {T} m me e acts t (g, (begun, followed)) = followed_goes m me (region_of {T = T} reader) acts g (beginning 0 ++ beginning 1) t (processing_leads m me e g begun) followed
