-- The laws of the identity over a queue.
use Rattle.std.specs.Prelude.{◌≡◌, ℕ, ◌+◌, ◌<◌, true, false, List, [], ◌∷◌, ◌++◌, length, slice_get, Some, None, refl}
use Rattle.std.proofs.Common.{inl, inr, ap, ◌∙◌, subst, arith}
use Rattle.rsx_sources.specs.Prelude.{Note, Nothing, Signal, Next, Complete, Error, Meaning, Stream, AreWithin, CanStep, IsHungry, ends_input, Incoming, incoming_of, quiet}
use Rattle.rsx_prefetch.proofs.Batches.{credits-more}
use Rattle.rsx_queued.proofs.Counts.{nothing_held, room_for}
use Rattle.rsx_queued.specs.declared.tail.Tail.{Tail}
use Rattle.rsx_queued.specs.declared.tail.Tail.TheVariants.{Open, Completion, Failure, Taken}
use Rattle.rsx_queued.specs.Prelude.{held_then, first_held, is_open, ended_in, unless_taken}
use Rattle.rsx_merging.specs.declared.publish_on_node.PublishOnNode.{PublishOnNode}
use Rattle.rsx_merging.specs.PublishOn.{or_done, publish_comes_out, publish_waiting, publish_takes, publish_ended, publish_counted, publish_wanted}

-- ---- once its ending came in, what comes in doesn't matter

left_same : {T : Type 0} (t : Tail) (xs : List T) (v w : Stream T) → ended_in t false ≡ true → or_done (unless_taken t (Some (held_then xs t v))) ≡ or_done (unless_taken t (Some (held_then xs t w)))
left_same Open xs v w e = cc
left_same Completion xs v w e = refl
left_same (Failure c) xs v w e = refl
left_same Taken xs v w e = refl

pub publish_drops : {T : Type 0} (m : Meaning T) (n : PublishOnNode T) (inc other : Incoming T) (further : Note) → publish_ended n ≡ true → publish_comes_out m n inc further ≡ publish_comes_out m n other further
publish_drops m n inc other further e = ap (quiet further) (left_same n.input.tail n.input.queue.items inc.first other.first e)

-- an ending that is offered came in
offers_ending : {T : Type 0} (t : Tail) (xs : List T) (s : Signal T) → unless_taken t (first_held xs t) ≡ Some s → ends_input s ≡ true → ended_in t false ≡ true
offers_ending Open [] s w e = cc
offers_ending Open (x ∷ xs) (Next y) w e = cc
offers_ending Open (x ∷ xs) Complete w e = cc
offers_ending Open (x ∷ xs) (Error c) w e = cc
offers_ending Completion xs s w e = refl
offers_ending (Failure c) xs s w e = refl
offers_ending Taken xs s w e = cc

pub publish_ends : {T : Type 0} (m : Meaning T) (n : PublishOnNode T) (s : Signal T) (inc other : Incoming T) (further : Note) → publish_waiting m n ≡ Some s → ends_input s ≡ true → publish_comes_out m n inc further ≡ publish_comes_out m n other further
publish_ends m n s inc other further w e = publish_drops m n inc other further (offers_ending n.input.tail n.input.queue.items s w e)

-- it has no input whose completion it took and that it goes on with
pub publish_done_drops : {T : Type 0} (m : Meaning T) (n : PublishOnNode T) (hubs before after : List (Stream T)) (v w : Stream T) (further : Note) → false ≡ true →
    publish_comes_out m n (incoming_of hubs (before ++ v ∷ after)) further ≡ publish_comes_out m n (incoming_of hubs (before ++ w ∷ after)) further
publish_done_drops m n hubs before after v w further d = cc

-- ---- something comes out

pub publish_settles : {T : Type 0} (m : Meaning T) (n : PublishOnNode T) (inc : Incoming T) → (v : Stream T) × (publish_comes_out m n inc Nothing ≡ Some v)
publish_settles m n inc = (_, refl)

-- ---- it isn't stuck

-- an ending that came in is offered, or an item in front of it
ending_there : {T : Type 0} (t : Tail) (xs : List T) → ended_in t false ≡ true → unless_taken t (first_held xs t) ≡ None → ⊥
ending_there Open xs e none = cc
ending_there Completion [] e none = cc
ending_there Completion (x ∷ xs) e none = cc
ending_there (Failure c) [] e none = cc
ending_there (Failure c) (x ∷ xs) e none = cc
ending_there Taken xs e none = cc

pub publish_ending_waits : {T : Type 0} (m : Meaning T) (n : PublishOnNode T) (asked sent : ℕ) → publish_ended n ≡ true → publish_waiting m n ≡ None → sent < asked → CanStep (λ k i a s. false) (λ k a s. false) n asked sent
publish_ending_waits m n asked sent e none more = absurd (ending_there n.input.tail n.input.queue.items e none)

pub publish_hungry : {T : Type 0} (m : Meaning T) (n : PublishOnNode T) (taken : List ℕ) (asked sent : ℕ) → publish_ended n ≡ false → publish_counted n taken sent → publish_waiting m n ≡ None → sent < asked → AreWithin taken →
    IsHungry publish_takes (λ k i a s. false) (λ k a s. false) (λ k i. false) publish_wanted (λ k. None) n taken asked sent
publish_hungry {T} m n taken asked sent still counted none more within =
    let empty : n.input.queue.items ≡ [] = nothing_held n.input.tail n.input.queue.items (ap is_open counted.0) none in
    let zero_long : length n.input.queue.items ≡ 0 = ap length empty in
    let all_sent : sent + length n.input.queue.items ≡ sent = omega (arith, zero_long) in
    let one : taken ≡ sent ∷ [] = counted.2 ∙ ap (λ k. k ∷ []) all_sent in
    let low : AreWithin (sent ∷ []) = subst AreWithin one within in
    inr (inr (inl (record {
      i = 0;
      c = sent;
      at = ap (λ l. slice_get l 0) one;
      open_still = refl;
      takes_any = λ f. rw (ap is_open counted.0) (room_for n.input.queue empty counted.1 f);
      wants = credits-more n.input.queue.capacity sent counted.1 low.0;
    })))
