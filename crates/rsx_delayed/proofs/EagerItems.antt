-- An item goes out of the identity whose failure may overtake items, and is recorded as it goes.
use Rattle.std.proofs.Common.{◌≡◌, ℕ, zero, suc, ◌+◌, ◌≤◌, Bool, true, false, ◌&&◌, if◌then◌else◌, List, [], ◌∷◌, ◌++◌, length, Option, Some, None, option_map, refl, ap, sym, ◌∙◌, subst, add-one, arith}
use Rattle.std.specs.Option.{is_some}
use Rattle.std.proofs.lemmas.Bool.{and_parts}
use Rattle.std.proofs.lemmas.Option.{same_Some}
use Rattle.rsx_sources.specs.Prelude.{Note, Nothing, Picks, Ended, Signal, Next, Complete, Error, Meaning, note_then, Stream, item_then, Incoming, IsItemOut, IsItemOutBy}
use Rattle.rsx_queued.specs.declared.tail.Tail.{Tail}
use Rattle.rsx_queued.specs.declared.input.QueuedInput.{QueuedInput}
use Rattle.rsx_queued.specs.Prelude.{ended_in, is_taken, next_signal}
use Rattle.rsx_queued.proofs.Merged.{picks_compose}
use Rattle.rsx_values.specs.Record.{written}
use Rattle.rsx_values.specs.declared.record.Run.{Run}
use Rattle.rsx_merging.specs.declared.publish_on_node.PublishOnNode.{PublishOnNode}
use Rattle.rsx_merging.specs.PublishOn.{publish_comes_out, publish_counted, publish_ended, publish_popped, publish_waiting, restored}
use Rattle.rsx_delayed.specs.TwoRuns.{fits, repeated, with_choice, without_choice}
use Rattle.rsx_delayed.specs.PublishOnEager.{all_left, goes_out, item_note, note_of, offered, out_of, eager_comes_out, eager_done, eager_ended, eager_popped, eager_popping, eager_recorded, eager_waiting, IsEagerCounted}
use Rattle.rsx_delayed.specs.declared.publish_on_eager_node.Chosen.{Chosen}
use Rattle.rsx_delayed.specs.declared.publish_on_eager_node.Chosen.TheVariants as chosen
use Rattle.rsx_delayed.specs.declared.publish_on_eager_node.PublishOnEagerNode.{PublishOnEagerNode}

-- ---- what is recorded

-- nothing was chosen before it, and its choice fits
pub record IsNoted {T : Type 0} (c : Chosen) (r : List Run) (t : Tail) (o : Option (Signal T)) : Type 0 where
  pub free : c ≡ chosen.Nothing
  pub goes : goes_out t && fits r 0 ≡ true
  pub item : T
  pub first : o ≡ Some (Next item)

test_of : {T : Type 0} (b : Bool) (x : T) → is_some (item_note (if b then Some (Next x) else None)) ≡ true → b ≡ true
test_of true x e = refl
test_of false x e = cc

pub noted : {T : Type 0} (c : Chosen) (r : List Run) (t : Tail) (o : Option (Signal T)) → is_some (note_of c (offered c r t o)) ≡ true → IsNoted c r t o
noted chosen.Nothing r t None e = cc
noted chosen.Nothing r t (Some (Next x)) e = record { free = refl; goes = test_of (goes_out t && fits r 0) x e; item = x; first = refl }
noted chosen.Nothing r t (Some Complete) e = cc
noted chosen.Nothing r t (Some (Error k)) e = cc
noted chosen.Item r t o e = cc
noted chosen.Failure r t o e = cc
noted chosen.Over r t o e = cc

pub noted_fits : {T : Type 0} (c : Chosen) (r : List Run) (t : Tail) (o : Option (Signal T)) → is_some (note_of c (offered c r t o)) ≡ true → fits r 0 ≡ true
noted_fits c r t o e = (and_parts (goes_out t) (fits r 0) (noted c r t o e).goes).1

if_goes : {T : Type 0} (b : Bool) (x : T) → b ≡ true → (if b then Some (Next x) else None) ≡ Some (Next x)
if_goes true x e = refl
if_goes false x e = cc

-- such an item is offered
item_offered : {T : Type 0} (c : Chosen) (r : List Run) (t : Tail) (o : Option (Signal T)) (x : T) → c ≡ chosen.Nothing → goes_out t && fits r 0 ≡ true → o ≡ Some (Next x) → offered c r t o ≡ Some (Next x)
item_offered c r t o x free goes is = ap (λ k. offered k r t o) free ∙ (ap (λ s. offered chosen.Nothing r t s) is ∙ if_goes (goes_out t && fits r 0) x goes)

-- ---- an item that is recorded goes out

-- it is chosen, and comes out
chosen_first : {T : Type 0} (x : T) (v : Stream T) (further : Note) → out_of chosen.Item further (item_then x v) ≡ out_of chosen.Nothing (note_then (Picks (0 ∷ [])) further) (item_then x v)
chosen_first x v Nothing = refl
chosen_first x v (Picks cs) = refl
chosen_first x v (Ended o) = refl

comes_first : {T : Type 0} (x : T) (v : Stream T) (further : Note) → out_of chosen.Item further (item_then x v) ≡ option_map (item_then x) (out_of chosen.Nothing further v)
comes_first x v Nothing = refl
comes_first x v (Picks cs) = refl
comes_first x v (Ended o) = refl

one_run_more : (r q : List Run) (sent : ℕ) → q ≡ with_choice r 0 → r ≡ repeated 0 sent → q ≡ repeated 0 (sent + 1)
one_run_more r q sent is was = is ∙ (ap (λ l. with_choice l 0) was ∙ counted_one sent)
  where
    counted_one : (sent : ℕ) → with_choice (repeated 0 sent) 0 ≡ repeated 0 (sent + 1)
    counted_one zero = refl
    counted_one (suc n) = ap (λ k. record { input = 0; count = k } ∷ []) (add-one (suc n)) ∙ sym (ap (repeated 0) (add-one (suc n)))

-- the item left the queue
abbrev pub IsHeldOut : {T : Type 0} → Meaning T → PublishOnNode T → T → PublishOnNode T → Type 0
IsHeldOut m h x k = IsItemOut (publish_comes_out m) (publish_waiting m) publish_popped (λ n. Nothing) publish_counted publish_ended (λ n i. false) h x k

left_behind : {T : Type 0} (m : Meaning T) (h k : PublishOnNode T) (x : T) (c : Chosen) (r q : List Run) → IsHeldOut m h x k → (inc : Incoming T) → all_left (record { held = h; chosen = c; choices = r }) inc ≡ item_then x (all_left (record { held = k; chosen = c; choices = q }) inc)
left_behind m h k x c r q out inc = same_Some _ _ (out.value inc Nothing)

tail_stays : {T : Type 0} (h k : QueuedInput T) (x : T) → h ≡ restored (Next x) k → h.tail ≡ k.tail
tail_stays h k x e = ap (λ i. i.tail) e

abbrev pub IsEagerOut : {T : Type 0} → Meaning T → Option Note → PublishOnEagerNode T → T → PublishOnEagerNode T → Type 0
IsEagerOut m o old x new = IsItemOutBy (eager_comes_out m) (eager_waiting m) eager_popped eager_recorded IsEagerCounted eager_ended eager_done o old x new

noted_out : {T : Type 0} (m : Meaning T) (h k : PublishOnNode T) (r q : List Run) (x : T) → goes_out h.input.tail && fits r 0 ≡ true → q ≡ with_choice r 0 → written q ≡ written r ++ 0 ∷ [] → without_choice q ≡ r → IsHeldOut m h x k →
    IsEagerOut m (Some (Picks (0 ∷ []))) (record { held = h; chosen = chosen.Nothing; choices = r }) x (record { held = k; chosen = chosen.Nothing; choices = q })
noted_out m h k r q x goes more adds undone out =
    let was = left_behind m h k x chosen.Nothing r q out in
    let same : h.input.tail ≡ k.input.tail = tail_stays h.input k.input x out.popped_out.0 in
    let items : h.input.queue.items ≡ x ∷ k.input.queue.items = ap (λ i. i.queue.items) out.popped_out.0 in
    let places : h.input.queue.capacity ≡ k.input.queue.capacity = ap (λ i. i.queue.capacity) out.popped_out.0 in (
      record {
        waited = item_offered chosen.Nothing r h.input.tail (next_signal h.input) x refl goes out.waited;
        item = refl;
        popped_out = (out.popped_out, refl, sym undone);
        ready = record { held = h; chosen = chosen.Item; choices = q };
        noted = record {
          value = λ inc further. rw (was inc) (chosen_first x (all_left (record { held = k; chosen = chosen.Nothing; choices = q }) inc) further);
          notes = ap Picks adds;
          composes = picks_compose (written r) (0 ∷ []);
          goes_on = refl;
        };
        value = λ inc further. rw (was inc) (comes_first x (all_left (record { held = k; chosen = chosen.Nothing; choices = q }) inc) further);
        notes = refl;
      },
      (
        refl,
        (λ taken sent counted. record {
          goes_on = refl;
          unended = ap is_taken (sym same) ∙ counted.unended;
          some_room = subst (λ n. 1 ≤ n) places counted.some_room;
          counts = counted.counts ∙ ap (λ l. (sent + length l) ∷ []) items ∙ ap (λ n. n ∷ []) (omega arith);
          recorded = one_run_more r q sent more counted.recorded;
        }),
        λ j d. ap (λ t. ended_in t false) (sym same) ∙ d,
      ),
    )

pub item_recorded : {T : Type 0} (m : Meaning T) (old new : PublishOnEagerNode T) (x : T) → is_some (eager_popping old) ≡ true → new.chosen ≡ old.chosen → new.choices ≡ with_choice old.choices 0 → written new.choices ≡ written old.choices ++ 0 ∷ [] → without_choice new.choices ≡ old.choices →
    IsHeldOut m old.held x new.held → IsEagerOut m (eager_popping old) old x new
item_recorded m old new x e stays more adds undone out =
    let t = old.held.input.tail in
    let k = noted old.chosen old.choices t (next_signal old.held.input) e in
    let waits : eager_waiting m old ≡ Some (Next x) = item_offered old.chosen old.choices t (next_signal old.held.input) x k.free k.goes out.waited in
    let note : eager_popping old ≡ Some (Picks (0 ∷ [])) = ap (note_of old.chosen) waits ∙ ap (λ c. note_of c (Some (Next x))) k.free in
    subst
    (λ o. IsEagerOut m o old x new)
    (sym note)
    (subst
    (λ c. IsEagerOut m (Some (Picks (0 ∷ []))) (record { held = old.held; chosen = c; choices = old.choices }) x new)
    (sym k.free)
    (subst
    (λ c. IsEagerOut m (Some (Picks (0 ∷ []))) (record { held = old.held; chosen = chosen.Nothing; choices = old.choices }) x (record { held = new.held; chosen = c; choices = new.choices }))
    (sym (stays ∙ k.free))
    (noted_out m old.held new.held old.choices new.choices x k.goes more adds undone out)))
