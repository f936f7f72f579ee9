-- The identity over a queue whose failure may overtake items, as a node: what stands in its queue, what is chosen and did not go out
-- yet, and the choices made.
use Rattle.std.specs.Prelude.{◌≡◌, ℕ, zero, suc, ◌+◌, ◌≤◌, ◌==◌, Bool, true, false, ◌&&◌, if◌then◌else◌, List, [], ◌∷◌, length, Option, Some, None, option_map}
use Rattle.rsx_sources.specs.Prelude.{Note, Picks, Ending, Signal, Next, Complete, Error, Meaning, Stream, ended_by, item_then, Incoming, front_of}
use Rattle.rsx_sources.specs.declared.machine.Front.{Front}
use Rattle.rsx_sources.specs.declared.machine.Front.TheVariants as front
use Rattle.rsx_queued.specs.declared.tail.Tail.{Tail}
use Rattle.rsx_queued.specs.declared.tail.Tail.TheVariants as tail
use Rattle.rsx_queued.specs.Prelude.{is_gone, next_signal, picked, still}
use Rattle.rsx_values.specs.Record.{written}
use Rattle.rsx_values.specs.declared.record.Run.{Run}
use Rattle.rsx_merging.specs.PublishOn.{or_done, publish_ended, publish_popped, publish_queued, publish_takes, publish_wanted}
use Rattle.rsx_values.specs.Eager.{eager, eager_of}
use Rattle.rsx_delayed.specs.TwoRuns.{fits, repeated, without_choice}
use Rattle.rsx_delayed.specs.declared.publish_on_eager_node.Chosen.{Chosen}
use Rattle.rsx_delayed.specs.declared.publish_on_eager_node.Chosen.TheVariants as chosen
use Rattle.rsx_delayed.specs.declared.publish_on_eager_node.PublishOnEagerNode.{PublishOnEagerNode}

-- ---- the value

-- a value of which nothing more is chosen
abbrev pub as_it_is : {T : Type 0} → List ℕ → Stream T → Option (Stream T)
as_it_is [] v = Some v
as_it_is (c ∷ cs) v = None

-- the first item, which is chosen already, and the rest under the choices
abbrev pub item_first : {T : Type 0} → List ℕ → List T → Ending → Option (Stream T)
item_first cs [] e = as_it_is cs (ended_by e)
item_first cs (x ∷ xs) e = option_map (item_then x) (eager cs xs e)

-- behind a failure that went out as no item stood before it: the choice of it changes nothing
abbrev pub once_failed : {T : Type 0} → List ℕ → Stream T → Option (Stream T)
once_failed [] v = Some v
once_failed (zero ∷ cs) v = None
once_failed (suc zero ∷ []) v = Some v
once_failed (suc zero ∷ (c ∷ cs)) v = None
once_failed (suc (suc n) ∷ cs) v = None

-- what comes out of a value under the further choices
abbrev pub chosen_then : {T : Type 0} → Chosen → List ℕ → Stream T → Option (Stream T)
chosen_then chosen.Nothing cs v = eager_of cs v
chosen_then chosen.Item cs v = item_first cs v.items v.ending
chosen_then chosen.Failure cs v = as_it_is cs v
chosen_then chosen.Over cs v = once_failed cs v

abbrev pub out_of : {T : Type 0} → Chosen → Note → Stream T → Option (Stream T)
out_of c further v = picked further (λ cs. chosen_then c cs v)

-- what stands in the queue, and then the ending behind it or what still comes in
abbrev pub all_left : {T : Type 0} → PublishOnEagerNode T → Incoming T → Stream T
all_left n inc = or_done (still n.held.input inc.first)

abbrev pub eager_comes_out : {T : Type 0} → Meaning T → PublishOnEagerNode T → Incoming T → Note → Option (Stream T)
eager_comes_out m n inc further = out_of n.chosen further (all_left n inc)

-- ---- what is offered

-- whether an item goes out that this stands behind
abbrev pub goes_out : Tail → Bool
goes_out tail.Open = true
goes_out tail.Completion = true
goes_out (tail.Failure c) = false
goes_out tail.Taken = false

-- of the oldest signal: an item where no failure stands behind it and its choice fits behind those made, and an ending that no item
-- stands before
abbrev pub offered : {T : Type 0} → Chosen → List Run → Tail → Option (Signal T) → Option (Signal T)
offered chosen.Nothing r t None = None
offered chosen.Nothing r t (Some (Next x)) = if goes_out t && fits r 0 then Some (Next x) else None
offered chosen.Nothing r t (Some Complete) = Some Complete
offered chosen.Nothing r t (Some (Error c)) = Some (Error c)
offered chosen.Item r t s = None
offered chosen.Failure r t s = s
offered chosen.Over r t s = None

abbrev pub eager_waiting : {T : Type 0} → Meaning T → PublishOnEagerNode T → Option (Signal T)
eager_waiting m n = offered n.chosen n.choices n.held.input.tail (next_signal n.held.input)

abbrev pub eager_shown : {T : Type 0} → PublishOnEagerNode T → Option Front
eager_shown n = option_map front_of (offered n.chosen n.choices n.held.input.tail (next_signal n.held.input))

-- what an item adds to the record as it goes out
abbrev pub item_note : {T : Type 0} → Option (Signal T) → Option Note
item_note None = None
item_note (Some (Next x)) = Some (Picks (0 ∷ []))
item_note (Some Complete) = None
item_note (Some (Error c)) = None

abbrev pub note_of : {T : Type 0} → Chosen → Option (Signal T) → Option Note
note_of chosen.Nothing s = item_note s
note_of chosen.Item s = None
note_of chosen.Failure s = None
note_of chosen.Over s = None

-- what the offered signal adds to the record as it goes out
abbrev pub eager_popping : {T : Type 0} → PublishOnEagerNode T → Option Note
eager_popping n = note_of n.chosen (offered n.chosen n.choices n.held.input.tail (next_signal n.held.input))

-- ---- choices

-- whether a choice can be made
abbrev pub is_free : Chosen → Bool
is_free chosen.Nothing = true
is_free chosen.Item = false
is_free chosen.Failure = false
is_free chosen.Over = false

-- the failure, as long as items stand before it
abbrev pub may_choose : {T : Type 0} → List T → Tail → ℕ → Bool
may_choose [] t i = false
may_choose (x ∷ xs) tail.Open i = false
may_choose (x ∷ xs) tail.Completion i = false
may_choose (x ∷ xs) (tail.Failure c) i = i == 1
may_choose (x ∷ xs) tail.Taken i = false

abbrev pub eager_picks : {T : Type 0} → PublishOnEagerNode T → ℕ → ℕ → ℕ → Bool
eager_picks n i asked sent = is_free n.chosen && (may_choose n.held.input.queue.items n.held.input.tail i && fits n.choices i)

abbrev pub eager_recording : {T : Type 0} → PublishOnEagerNode T → ℕ → Note
eager_recording n i = Picks (i ∷ [])

abbrev pub eager_recorded : {T : Type 0} → PublishOnEagerNode T → Note
eager_recorded n = Picks (written n.choices)

-- ---- what comes in, and what goes on

-- what the identity over a queue takes
abbrev pub eager_takes : {T : Type 0} → PublishOnEagerNode T → ℕ → Front → Bool
eager_takes n i f = publish_takes n.held i f

-- the ending of its input came in, and waits behind the items
abbrev pub eager_done : {T : Type 0} → PublishOnEagerNode T → ℕ → Bool
eager_done n i = publish_ended n.held

abbrev pub is_last : Chosen → Bool
is_last chosen.Nothing = false
is_last chosen.Item = false
is_last chosen.Failure = true
is_last chosen.Over = false

-- the failure was chosen, and waits
abbrev pub eager_ended : {T : Type 0} → PublishOnEagerNode T → Bool
eager_ended n = is_last n.chosen && publish_ended n.held

abbrev pub goes_on : Chosen → Bool
goes_on chosen.Nothing = true
goes_on chosen.Item = false
goes_on chosen.Failure = false
goes_on chosen.Over = false

-- No failure was chosen or went out, and no completion did. What was taken in was sent or stands in the queue, and each item that was
-- sent was recorded.
pub record IsEagerCounted {T : Type 0} (n : PublishOnEagerNode T) (taken : List ℕ) (sent : ℕ) : Type 0 where
  pub goes_on : goes_on n.chosen ≡ true
  pub unended : is_gone n.held.input ≡ false
  pub some_room : 1 ≤ n.held.input.queue.capacity
  pub counts : taken ≡ (sent + length n.held.input.queue.items) ∷ []
  pub recorded : n.choices ≡ repeated 0 sent

-- the credits of the queue, by the items that were sent
abbrev pub eager_wanted : {T : Type 0} → PublishOnEagerNode T → ℕ → ℕ → ℕ → ℕ
eager_wanted n i asked sent = publish_wanted n.held i asked sent

-- how many signals of the one input wait
abbrev pub eager_queued : {T : Type 0} → PublishOnEagerNode T → ℕ → Option ℕ
eager_queued n i = publish_queued n.held i

-- ---- a signal goes out

-- what is chosen then
abbrev pub chosen_after : Chosen → Front → Chosen
chosen_after chosen.Nothing front.Item = chosen.Nothing
chosen_after chosen.Nothing front.Completion = chosen.Nothing
chosen_after chosen.Nothing (front.Failure c) = chosen.Over
chosen_after chosen.Item front.Item = chosen.Nothing
chosen_after chosen.Item front.Completion = chosen.Item
chosen_after chosen.Item (front.Failure c) = chosen.Item
chosen_after chosen.Failure f = chosen.Failure
chosen_after chosen.Over f = chosen.Over

-- what was chosen before this signal went out
abbrev pub chosen_before : {T : Type 0} → Signal T → Chosen → Chosen
chosen_before (Next x) c = c
chosen_before Complete c = c
chosen_before (Error k) chosen.Nothing = chosen.Nothing
chosen_before (Error k) chosen.Item = chosen.Item
chosen_before (Error k) chosen.Failure = chosen.Failure
chosen_before (Error k) chosen.Over = chosen.Nothing

-- the choices made before it: an item was recorded as it went out, as long as no failure was chosen
abbrev pub choices_before : {T : Type 0} → Signal T → Chosen → List Run → List Run
choices_before (Next x) chosen.Nothing r = without_choice r
choices_before (Next x) chosen.Item r = r
choices_before (Next x) chosen.Failure r = r
choices_before (Next x) chosen.Over r = r
choices_before Complete c r = r
choices_before (Error k) c r = r

abbrev pub eager_popped : {T : Type 0} → PublishOnEagerNode T → Signal T → PublishOnEagerNode T → Type 0
eager_popped old s new =
    publish_popped old.held s new.held × (old.chosen ≡ chosen_before s new.chosen) × (old.choices ≡ choices_before s new.chosen new.choices)
