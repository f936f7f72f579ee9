-- An ending goes out of the identity whose failure may overtake items, a signal is put back, and what is left where nothing more is
-- chosen.
use Rattle.std.proofs.Common.{◌≡◌, ℕ, zero, suc, ◌==◌, Bool, true, false, if◌then◌else◌, List, [], ◌∷◌, Option, Some, None, option_map, refl, ap, sym, ◌∙◌, subst}
use Rattle.std.proofs.lemmas.Bool.{and_parts, eqb-true}
use Rattle.rsx_sources.specs.Prelude.{Note, Nothing, Picks, Ended, Done, Failed, Cause, Signal, Next, Complete, Error, Meaning, Stream, ended_by, signal_then, ends_input, Incoming, incoming_of, IsPopped, IsPoppedBy, IsResidualOf, front_of}
use Rattle.rsx_sources.specs.declared.machine.Front.{Front}
use Rattle.rsx_sources.specs.declared.machine.Front.TheVariants as front
use Rattle.rsx_prefetch.specs.Queue.{Queue}
use Rattle.rsx_queued.specs.Held.{tail_signal, tail_taken}
use Rattle.rsx_queued.specs.declared.tail.Tail.{Tail}
use Rattle.rsx_queued.specs.declared.tail.Tail.TheVariants as tail
use Rattle.rsx_queued.specs.declared.input.QueuedInput.{QueuedInput}
use Rattle.rsx_queued.specs.Prelude.{first_held, has_room_for, held_then, next_signal, takes, unless_taken}
use Rattle.rsx_queued.proofs.Picks.{none_more}
use Rattle.rsx_values.specs.Record.{written}
use Rattle.rsx_values.specs.declared.record.Run.{Run}
use Rattle.rsx_merging.specs.declared.publish_on_node.PublishOnNode.{PublishOnNode}
use Rattle.rsx_merging.specs.PublishOn.{item_of, or_done, publish_comes_out, publish_popped, restored}
use Rattle.rsx_values.specs.Eager.{eager}
use Rattle.rsx_delayed.specs.TwoRuns.{fits}
use Rattle.rsx_delayed.specs.PublishOnEager.{all_left, as_it_is, choices_before, chosen_after, chosen_before, chosen_then, note_of, offered, out_of, eager_comes_out, eager_ended, eager_popped, eager_popping, eager_recorded, eager_shown, eager_takes, eager_waiting}
use Rattle.rsx_delayed.specs.PublishOnEagerLaws.{nothing_chosen}
use Rattle.rsx_delayed.specs.declared.publish_on_eager_node.Chosen.{Chosen}
use Rattle.rsx_delayed.specs.declared.publish_on_eager_node.Chosen.TheVariants as chosen
use Rattle.rsx_delayed.specs.declared.publish_on_eager_node.PublishOnEagerNode.{PublishOnEagerNode}

-- it takes signals at input 0 alone
pub one_input : {T : Type 0} (n : PublishOnEagerNode T) (i : ℕ) (f : Front) → eager_takes n i f ≡ true → i ≡ 0
one_input n i f h = eqb-true i 0 (and_parts (i == 0) (takes n.held.input f) h).0

-- ---- an ending goes out

-- of a value of which nothing more is chosen
as_it_goes : {T : Type 0} (s : Signal T) (cs : List ℕ) (w : Stream T) → as_it_is cs (signal_then s w) ≡ option_map (signal_then s) (as_it_is cs w)
as_it_goes s [] w = refl
as_it_goes s (c ∷ cs) w = refl

completes : (T : Type 0) (cs : List ℕ) → eager {T = T} cs [] Done ≡ option_map (signal_then Complete) (eager cs [] Done)
completes T [] = refl
completes T (zero ∷ cs) = refl
completes T (suc zero ∷ cs) = refl
completes T (suc (suc n) ∷ cs) = refl

fails : {T : Type 0} (k : Cause) (cs : List ℕ) (w : Stream T) → eager cs [] (Failed k) ≡ option_map (signal_then (Error k)) (chosen_then chosen.Over cs w)
fails k [] w = refl
fails k (zero ∷ cs) w = refl
fails k (suc zero ∷ []) w = refl
fails k (suc zero ∷ (c ∷ cs)) w = refl
fails k (suc (suc n) ∷ cs) w = refl

-- under these choices, as all that was left
goes : {T : Type 0} (c : Chosen) (r : List Run) (t : Tail) (s : Signal T) (cs : List ℕ) → ends_input s ≡ true → offered c r t (Some s) ≡ Some s →
    chosen_then c cs (signal_then s (ended_by Done)) ≡ option_map (signal_then s) (chosen_then (chosen_after c (front_of s)) cs (ended_by Done))
goes c r t (Next x) cs l o = cc
goes {T} chosen.Nothing r t Complete cs l o = completes T cs
goes chosen.Nothing r t (Error k) cs l o = fails k cs (ended_by Done)
goes chosen.Item r t s cs l o = cc
goes chosen.Failure r t Complete cs l o = as_it_goes Complete cs (ended_by Done)
goes chosen.Failure r t (Error k) cs l o = as_it_goes (Error k) cs (ended_by Done)
goes chosen.Over r t s cs l o = cc

ending_goes : {T : Type 0} (c : Chosen) (r : List Run) (t : Tail) (s : Signal T) (further : Note) → ends_input s ≡ true → offered c r t (Some s) ≡ Some s → out_of c further (signal_then s (ended_by Done)) ≡ option_map (signal_then s) (out_of (chosen_after c (front_of s)) further (ended_by Done))
ending_goes c r t s Nothing l o = refl
ending_goes c r t s (Ended k) l o = refl
ending_goes c r t s (Picks cs) l o = goes c r t s cs l o

-- one that is offered
record IsEndingShown (T : Type 0) (c : Chosen) (r : List Run) (t : Tail) (f : Front) : Type 0 where
  pub signal : Signal T
  pub last : ends_input signal ≡ true
  pub waits : tail_signal t ≡ Some signal
  pub next : unless_taken t (tail_signal t) ≡ Some signal
  pub left : (v : Stream T) → or_done (unless_taken t (Some (held_then [] t v))) ≡ signal_then signal (ended_by Done)
  pub gone : tail_taken t ≡ tail.Taken
  pub put : (q : QueuedInput T) → restored signal q ≡ record q { tail = t }
  pub room : (q : Queue T) → has_room_for q (front_of signal) ≡ true
  pub offers : offered c r t (Some signal) ≡ Some signal
  pub is : f ≡ front_of signal
  pub before : c ≡ chosen_before signal (chosen_after c f)
  pub choices : (k : Chosen) → r ≡ choices_before signal k r
  pub unnoted : note_of c (Some signal) ≡ None

nothing_shown : (T : Type 0) (c : Chosen) (r : List Run) (t : Tail) (f : Front) → Some f ≡ option_map front_of (offered {T = T} c r t None) → ⊥
nothing_shown T chosen.Nothing r t f e = cc
nothing_shown T chosen.Item r t f e = cc
nothing_shown T chosen.Failure r t f e = cc
nothing_shown T chosen.Over r t f e = cc

ending_is : {T : Type 0} (c : Chosen) (r : List Run) (t : Tail) (s : Signal T) (f : Front) → ends_input s ≡ true → Some f ≡ option_map front_of (offered c r t (Some s)) →
    (offered c r t (Some s) ≡ Some s) × (f ≡ front_of s) × (c ≡ chosen_before s (chosen_after c f)) × (note_of c (Some s) ≡ None)
ending_is c r t (Next x) f l e = cc
ending_is chosen.Nothing r t Complete f l e = let is : f ≡ front.Completion = cc in (refl, is, rw is refl, refl)
ending_is chosen.Nothing r t (Error k) f l e = let is : f ≡ front.Failure k = cc in (refl, is, rw is refl, refl)
ending_is chosen.Item r t s f l e = cc
ending_is chosen.Failure r t Complete f l e = (refl, cc, refl, refl)
ending_is chosen.Failure r t (Error k) f l e = (refl, cc, refl, refl)
ending_is chosen.Over r t s f l e = cc

ending_shown : (T : Type 0) (c : Chosen) (r : List Run) (t : Tail) (f : Front) → Some f ≡ option_map front_of (offered {T = T} c r t (unless_taken t (tail_signal t))) → IsEndingShown T c r t f
ending_shown T c r tail.Open f e = absurd (nothing_shown T c r tail.Open f e)
ending_shown T c r tail.Completion f e =
    let k = ending_is {T = T} c r tail.Completion Complete f refl e in
    record { signal = Complete; last = refl; waits = refl; next = refl; left = λ v. refl; gone = refl; put = λ q. refl; room = λ q. refl; offers = k.0; is = k.1; before = k.2; choices = λ k. refl; unnoted = k.3 }
ending_shown T c r (tail.Failure x) f e =
    let k = ending_is {T = T} c r (tail.Failure x) (Error x) f refl e in
    record { signal = Error x; last = refl; waits = refl; next = refl; left = λ v. refl; gone = refl; put = λ q. refl; room = λ q. refl; offers = k.0; is = k.1; before = k.2; choices = λ k. refl; unnoted = k.3 }
ending_shown T c r tail.Taken f e = absurd (nothing_shown T c r tail.Taken f e)

-- no item stands before it
no_item : {T : Type 0} (b : Bool) (x : T) (f : Front) → Some f ≡ option_map front_of (if b then Some (Next x) else None) → item_of (if b then Some (Next x) else None) ≡ None → ⊥
no_item true x f e none = cc
no_item false x f e none = cc

none_before : {T : Type 0} (c : Chosen) (r : List Run) (t : Tail) (xs : List T) (f : Front) → Some f ≡ option_map front_of (offered c r t (unless_taken t (first_held xs t))) → item_of (offered c r t (unless_taken t (first_held xs t))) ≡ None → xs ≡ []
none_before c r t [] f e none = refl
none_before {T} c r tail.Taken (x ∷ xs) f e none = absurd (nothing_shown T c r tail.Taken f e)
none_before chosen.Nothing r tail.Open (x ∷ xs) f e none = absurd (no_item (fits r 0) x f e none)
none_before chosen.Nothing r tail.Completion (x ∷ xs) f e none = absurd (no_item (fits r 0) x f e none)
none_before chosen.Nothing r (tail.Failure k) (x ∷ xs) f e none = cc
none_before chosen.Item r t (x ∷ xs) f e none = cc
none_before chosen.Failure r tail.Open (x ∷ xs) f e none = cc
none_before chosen.Failure r tail.Completion (x ∷ xs) f e none = cc
none_before chosen.Failure r (tail.Failure k) (x ∷ xs) f e none = cc
none_before chosen.Over r t (x ∷ xs) f e none = cc

-- it is taken out, and nothing is recorded
pub ending_popped : {T : Type 0} (m : Meaning T) (old new : PublishOnEagerNode T) (f : Front) (o : Option (Signal T)) → Some f ≡ eager_shown old → item_of (eager_waiting m old) ≡ None →
    new.held.input.queue ≡ old.held.input.queue → o ≡ tail_signal old.held.input.tail → new.held.input.tail ≡ tail_taken old.held.input.tail → new.chosen ≡ chosen_after old.chosen f → new.choices ≡ old.choices →
    IsPoppedBy (eager_comes_out m) eager_popped eager_recorded eager_ended (eager_popping old) (eager_waiting m old) old o new
ending_popped {T} m old new f o shown none state out taken after choices =
    let t = old.held.input.tail in
    let r = old.choices in
    let items : old.held.input.queue.items ≡ [] = none_before old.chosen r t old.held.input.queue.items f shown none in
    let k : IsEndingShown T old.chosen r t f = ending_shown T old.chosen r t f (shown ∙ ap (λ l. option_map front_of (offered old.chosen r t (unless_taken t (first_held l t)))) items) in
    let next : next_signal old.held.input ≡ Some k.signal = ap (λ l. unless_taken t (first_held l t)) items ∙ k.next in
    let left : (inc : Incoming T) → all_left old inc ≡ signal_then k.signal (ended_by Done) = λ inc. ap (λ l. or_done (unless_taken t (Some (held_then l t inc.first)))) items ∙ k.left inc.first in
    let nothing : (inc : Incoming T) → all_left new inc ≡ ended_by Done = λ inc. ap (λ u. or_done (unless_taken u (Some (held_then new.held.input.queue.items u inc.first)))) (taken ∙ k.gone) in
    let put : old.held.input ≡ restored k.signal new.held.input = ap (λ q. record { queue = q; tail = t }) (sym state) ∙ sym (k.put new.held.input) in
    let now : chosen_after old.chosen (front_of k.signal) ≡ new.chosen = ap (chosen_after old.chosen) (sym k.is) ∙ sym after in
    let waits : eager_waiting m old ≡ Some k.signal = ap (offered old.chosen r t) next ∙ k.offers in
    let popped : IsPopped (eager_comes_out m) eager_popped (eager_waiting m old) old (Some k.signal) new = (
      waits,
      ((put, k.room new.held.input.queue), k.before ∙ ap (chosen_before k.signal) (sym after), k.choices new.chosen ∙ ap (choices_before k.signal new.chosen) (sym choices)),
      λ inc further.
          ap (out_of old.chosen further) (left inc)
          ∙ ending_goes old.chosen r t k.signal further k.last k.offers
          ∙ ap (λ c. option_map (signal_then k.signal) (out_of c further (ended_by Done))) now
          ∙ ap (λ w. option_map (signal_then k.signal) (out_of new.chosen further w)) (sym (nothing inc)),
    ) in
    subst
    (λ p. IsPoppedBy (eager_comes_out m) eager_popped eager_recorded eager_ended p (eager_waiting m old) old o new)
    (sym (ap (note_of old.chosen) waits ∙ k.unnoted))
    (subst (λ s. IsPopped (eager_comes_out m) eager_popped (eager_waiting m old) old s new) (sym (out ∙ k.waits)) popped)

-- the same of a node that had no item to offer, and stayed as it was
pub ending_taken : {T : Type 0} (m : Meaning T) (old mid new : PublishOnEagerNode T) (f : Front) (o : Option (Signal T)) → mid ≡ old → Some f ≡ eager_shown mid → None ≡ item_of (eager_waiting m old) →
    new.held.input.queue ≡ mid.held.input.queue → o ≡ tail_signal mid.held.input.tail → new.held.input.tail ≡ tail_taken mid.held.input.tail → new.chosen ≡ chosen_after mid.chosen f → new.choices ≡ mid.choices →
    IsPoppedBy (eager_comes_out m) eager_popped eager_recorded eager_ended (eager_popping old) (eager_waiting m old) old o new
ending_taken m old mid new f o same shown none queue out taken after choices =
    subst
    (λ n. IsPoppedBy (eager_comes_out m) eager_popped eager_recorded eager_ended (eager_popping n) (eager_waiting m n) n o new)
    same
    (ending_popped m mid new f o shown (ap (λ n. item_of (eager_waiting m n)) same ∙ sym none) queue out taken after choices)

-- ---- a signal is put back

pub put_before : {T : Type 0} (before old new : PublishOnEagerNode T) (s : Signal T) → eager_popped before s old → ((b : PublishOnNode T) → publish_popped b s old.held → new.held ≡ b) → new.chosen ≡ chosen_before s old.chosen → new.choices ≡ choices_before s old.chosen old.choices → new ≡ before
put_before before old new s h held before_is choices_are =
    ap (λ k. record { held = k; chosen = new.chosen; choices = new.choices }) (held before.held h.0)
    ∙ (ap (λ c. record { held = before.held; chosen = c; choices = new.choices }) (before_is ∙ sym h.1)
    ∙ ap (λ r. record { held = before.held; chosen = before.chosen; choices = r }) (choices_are ∙ sym h.2))

-- ---- nothing more is chosen

pub rest_out : {T : Type 0} (m : Meaning T) (n : PublishOnEagerNode T) (inboxes incoming : List (Stream T)) (v : Stream T) → IsResidualOf (publish_comes_out m) (λ k. Nothing) (λ k. None) n.held inboxes incoming v → IsResidualOf (eager_comes_out m) eager_recorded (λ k. None) n inboxes incoming v
rest_out m n inboxes incoming v h hubs further behind none =
    ap (λ k. eager_comes_out m n (incoming_of hubs incoming) k) (none_more (written n.choices) further none)
    ∙ (nothing_chosen n.chosen (all_left n (incoming_of hubs incoming)) ∙ h hubs Nothing behind refl)
