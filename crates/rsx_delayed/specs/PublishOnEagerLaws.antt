-- The laws of the identity whose failure may overtake items.
use Rattle.std.specs.Prelude.{◌≡◌, ◌⊎◌, ℕ, zero, suc, ◌+◌, ◌-◌, ◌<◌, ◌^◌, Bool, true, false, ◌&&◌, if◌then◌else◌, List, [], ◌∷◌, ◌++◌, length, Option, Some, None, refl}
use Rattle.std.proofs.Common.{inl, inr, ap, ◌∙◌, subst, arith}
use Rattle.std.proofs.lemmas.Bool.{and_parts, lt-ltb}
use Rattle.rsx_demand.specs.declared.TheConstants.{UNBOUNDED}
use Rattle.rsx_sources.specs.Prelude.{Note, Nothing, Signal, Next, Complete, Error, Meaning, unchosen, Stream, AreWithin, CanStep, IsHungry, ends_input, Incoming, incoming_of}
use Rattle.rsx_sources.specs.Counts.{IsHungryAt}
use Rattle.rsx_sources.proofs.Hungry.{wants_input}
use Rattle.rsx_queued.specs.declared.tail.Tail.{Tail}
use Rattle.rsx_queued.specs.declared.tail.Tail.TheVariants as tail
use Rattle.rsx_queued.specs.Prelude.{ended_in, first_held, is_taken, next_signal, unless_taken}
use Rattle.rsx_values.specs.declared.record.Run.{Run}
use Rattle.rsx_merging.specs.PublishOnLaws.{publish_drops, publish_ends, publish_hungry}
use Rattle.rsx_merging.specs.PublishOn.{publish_counted, publish_ended, publish_takes, publish_waiting, publish_wanted}
use Rattle.rsx_delayed.specs.TwoRuns.{fits, repeated}
use Rattle.rsx_delayed.specs.PublishOnEager.{all_left, chosen_then, goes_on, goes_out, is_free, is_last, may_choose, offered, out_of, eager_comes_out, eager_done, eager_ended, eager_picks, eager_recorded, eager_takes, eager_waiting, eager_wanted, IsEagerCounted}
use Rattle.rsx_delayed.specs.declared.publish_on_eager_node.Chosen.{Chosen}
use Rattle.rsx_delayed.specs.declared.publish_on_eager_node.Chosen.TheVariants as chosen
use Rattle.rsx_delayed.specs.declared.publish_on_eager_node.PublishOnEagerNode.{PublishOnEagerNode}

one_value : {A : Type 0} (v w : A) → Some v ≡ Some w → v ≡ w
one_value v w e = cc

-- ---- once its ending came in, what comes in doesn't matter

left_same : {T : Type 0} (m : Meaning T) (n : PublishOnEagerNode T) (inc other : Incoming T) → publish_ended n.held ≡ true → all_left n inc ≡ all_left n other
left_same m n inc other e = one_value (all_left n inc) (all_left n other) (publish_drops m n.held inc other Nothing e)

pub eager_drops : {T : Type 0} (m : Meaning T) (n : PublishOnEagerNode T) (inc other : Incoming T) (further : Note) → eager_ended n ≡ true → eager_comes_out m n inc further ≡ eager_comes_out m n other further
eager_drops m n inc other further e = ap (out_of n.chosen further) (left_same m n inc other (and_parts (is_last n.chosen) (publish_ended n.held) e).1)

pub eager_done_drops : {T : Type 0} (m : Meaning T) (n : PublishOnEagerNode T) (hubs before after : List (Stream T)) (v w : Stream T) (further : Note) → eager_done n (length before) ≡ true →
    eager_comes_out m n (incoming_of hubs (before ++ v ∷ after)) further ≡ eager_comes_out m n (incoming_of hubs (before ++ w ∷ after)) further
eager_done_drops m n hubs before after v w further d = ap (out_of n.chosen further) (left_same m n (incoming_of hubs (before ++ v ∷ after)) (incoming_of hubs (before ++ w ∷ after)) d)

-- a signal that is offered is the oldest
if_let : {T : Type 0} (b : Bool) (x : T) (s : Signal T) → (if b then Some (Next x) else None) ≡ Some s → Some (Next x) ≡ Some s
if_let true x s w = w
if_let false x s w = cc

oldest : {T : Type 0} (c : Chosen) (r : List Run) (t : Tail) (o : Option (Signal T)) (s : Signal T) → offered c r t o ≡ Some s → o ≡ Some s
oldest chosen.Nothing r t None s w = cc
oldest chosen.Nothing r t (Some (Next x)) s w = if_let (goes_out t && fits r 0) x s w
oldest chosen.Nothing r t (Some Complete) s w = w
oldest chosen.Nothing r t (Some (Error k)) s w = w
oldest chosen.Item r t o s w = cc
oldest chosen.Failure r t o s w = w
oldest chosen.Over r t o s w = cc

pub eager_ends : {T : Type 0} (m : Meaning T) (n : PublishOnEagerNode T) (s : Signal T) (inc other : Incoming T) (further : Note) → eager_waiting m n ≡ Some s → ends_input s ≡ true → eager_comes_out m n inc further ≡ eager_comes_out m n other further
eager_ends m n s inc other further w e =
    ap (out_of n.chosen further) (one_value (all_left n inc) (all_left n other) (publish_ends m n.held s inc other Nothing (oldest n.chosen n.choices n.held.input.tail (next_signal n.held.input) s w) e))

-- ---- where nothing more is chosen, all that is left comes out

first_as_it_is : {T : Type 0} (xs : List T) (v : Stream T) → v.items ≡ xs → chosen_then chosen.Item [] v ≡ Some v
first_as_it_is [] v e = rw e refl
first_as_it_is (x ∷ xs) v e = rw e refl

pub nothing_chosen : {T : Type 0} (c : Chosen) (v : Stream T) → chosen_then c [] v ≡ Some v
nothing_chosen chosen.Nothing v = refl
nothing_chosen chosen.Item v = first_as_it_is v.items v refl
nothing_chosen chosen.Failure v = refl
nothing_chosen chosen.Over v = refl

pub eager_settles : {T : Type 0} (m : Meaning T) (n : PublishOnEagerNode T) (inc : Incoming T) → (v : Stream T) × (eager_comes_out m n inc (unchosen (eager_recorded n)) ≡ Some v)
eager_settles m n inc = (all_left n inc, nothing_chosen n.chosen (all_left n inc))

-- ---- it isn't stuck

-- a failure that was chosen is offered
failure_there : {T : Type 0} (c : Chosen) (r : List Run) (t : Tail) (xs : List T) → is_last c && ended_in t false ≡ true → offered c r t (unless_taken t (first_held xs t)) ≡ None → ⊥
failure_there chosen.Nothing r t xs e none = cc
failure_there chosen.Item r t xs e none = cc
failure_there chosen.Failure r tail.Open xs e none = cc
failure_there chosen.Failure r tail.Completion [] e none = cc
failure_there chosen.Failure r tail.Completion (x ∷ xs) e none = cc
failure_there chosen.Failure r (tail.Failure k) [] e none = cc
failure_there chosen.Failure r (tail.Failure k) (x ∷ xs) e none = cc
failure_there chosen.Failure r tail.Taken xs e none = cc
failure_there chosen.Over r t xs e none = cc

pub eager_ending_waits : {T : Type 0} (m : Meaning T) (n : PublishOnEagerNode T) (asked sent : ℕ) → eager_ended n ≡ true → eager_waiting m n ≡ None → sent < asked → CanStep eager_picks (λ k a s. false) n asked sent
eager_ending_waits m n asked sent e none more = absurd (failure_there n.chosen n.choices n.held.input.tail n.held.input.queue.items e none)

-- there is room for one more choice of an item, and for that of the failure
item_fits : (k : ℕ) → k < 2 ^ 64 - 1 → fits (repeated 0 k) 0 ≡ true
item_fits zero lt = refl
item_fits (suc k) lt = lt-ltb (suc k) (2 ^ 64 - 1) lt

failure_fits : (k : ℕ) → fits (repeated 0 k) 1 ≡ true
failure_fits zero = refl
failure_fits (suc k) = refl

-- an item that fits is offered
item_there : {T : Type 0} (b : Bool) (x : T) → b ≡ true → (if b then Some (Next x) else None) ≡ None → ⊥
item_there true x e none = cc
item_there false x e none = cc

fits_behind : (r : List Run) (sent : ℕ) → r ≡ repeated 0 sent → sent < 2 ^ 64 - 1 → fits r 0 ≡ true
fits_behind r sent is few = ap (λ l. fits l 0) is ∙ item_fits sent few

-- the choice that can be made where nothing is offered
pub record CanChoose {T : Type 0} (c : Chosen) (t : Tail) (xs : List T) (r : List Run) : Type 0 where
  pub i : ℕ
  pub low : i < 2 ^ 64
  pub picks : is_free c && (may_choose xs t i && fits r i) ≡ true

-- else nothing is in the queue, and no ending came
choice_or_none : {T : Type 0} (c : Chosen) (t : Tail) (xs : List T) (r : List Run) (sent : ℕ) → goes_on c ≡ true → is_taken t ≡ false → r ≡ repeated 0 sent → sent < 2 ^ 64 - 1 → offered c r t (unless_taken t (first_held xs t)) ≡ None →
    CanChoose c t xs r ⊎ ((t ≡ tail.Open) × (unless_taken t (first_held xs t) ≡ None))
choice_or_none chosen.Nothing tail.Open [] r sent on still is few none = inr (refl, refl)
choice_or_none chosen.Nothing tail.Open (x ∷ xs) r sent on still is few none = absurd (item_there (fits r 0) x (fits_behind r sent is few) none)
choice_or_none chosen.Nothing tail.Completion [] r sent on still is few none = cc
choice_or_none chosen.Nothing tail.Completion (x ∷ xs) r sent on still is few none = absurd (item_there (fits r 0) x (fits_behind r sent is few) none)
choice_or_none chosen.Nothing (tail.Failure k) [] r sent on still is few none = cc
choice_or_none chosen.Nothing (tail.Failure k) (x ∷ xs) r sent on still is few none = inl (record { i = 1; low = omega arith; picks = rw is (failure_fits sent) })
choice_or_none chosen.Nothing tail.Taken xs r sent on still is few none = cc
choice_or_none chosen.Item t xs r sent on still is few none = cc
choice_or_none chosen.Failure t xs r sent on still is few none = cc
choice_or_none chosen.Over t xs r sent on still is few none = cc

few_sent : (sent k : ℕ) → AreWithin ((sent + k) ∷ []) → sent < 2 ^ 64 - 1
few_sent sent k within = let lt : sent + k < UNBOUNDED = within.0 in omega (arith, lt)

-- a choice can be made, or it wants more of its input
pub choices_of : {T : Type 0} (m : Meaning T) (n : PublishOnEagerNode T) (taken : List ℕ) (sent : ℕ) → IsEagerCounted n taken sent → eager_waiting m n ≡ None → AreWithin taken →
    CanChoose n.chosen n.held.input.tail n.held.input.queue.items n.choices ⊎ ((n.held.input.tail ≡ tail.Open) × (publish_waiting m n.held ≡ None))
choices_of m n taken sent counted none within =
    choice_or_none n.chosen n.held.input.tail n.held.input.queue.items n.choices sent counted.goes_on counted.unended counted.recorded (few_sent sent (length n.held.input.queue.items) (subst AreWithin counted.counts within)) none

pub waits_for_more : {T : Type 0} (m : Meaning T) (n : PublishOnEagerNode T) (taken : List ℕ) (asked sent : ℕ) → IsEagerCounted n taken sent → n.held.input.tail ≡ tail.Open → publish_waiting m n.held ≡ None → sent < asked → AreWithin taken →
    IsHungryAt eager_takes eager_done eager_wanted n taken asked sent
waits_for_more m n taken asked sent counted open_still none more within =
    let going : publish_ended n.held ≡ false = ap (λ t. ended_in t false) open_still in
    let counts : publish_counted n.held taken sent = (open_still, counted.some_room, counted.counts) in
    let k = wants_input publish_takes (λ k i a s. false) (λ k a s. false) (λ k i. false) publish_wanted (λ k. None) n.held taken asked sent (publish_hungry m n.held taken asked sent going counts none more within) (λ i l. refl) refl refl in
    record { i = k.i; c = k.c; at = k.at; open_still = going; takes_any = k.takes_any; wants = k.wants }

pub eager_hungry : {T : Type 0} (m : Meaning T) (n : PublishOnEagerNode T) (taken : List ℕ) (asked sent : ℕ) → eager_ended n ≡ false → IsEagerCounted n taken sent → eager_waiting m n ≡ None → sent < asked → AreWithin taken →
    IsHungry eager_takes eager_picks (λ k a s. false) eager_done eager_wanted (λ k. None) n taken asked sent
eager_hungry {T} m n taken asked sent going counted none more within = by_choice (choices_of m n taken sent counted none within)
  where
    by_choice : CanChoose n.chosen n.held.input.tail n.held.input.queue.items n.choices ⊎ ((n.held.input.tail ≡ tail.Open) × (publish_waiting m n.held ≡ None)) → IsHungry eager_takes eager_picks (λ k a s. false) eager_done eager_wanted (λ k. None) n taken asked sent
    by_choice (inl p) = inl (p.i, p.low, p.picks)
    by_choice (inr w) = inr (inr (inl (waits_for_more m n taken asked sent counted w.0 w.1 more within)))
