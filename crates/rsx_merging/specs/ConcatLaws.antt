-- The laws of a concat.
use Rattle.std.specs.Prelude.{◌≡◌, ℕ, ◌+◌, ◌-◌, ◌<◌, min, true, false, nat_eq, List, [], ◌∷◌, ◌++◌, length, slice_get, Option, Some, None, refl}
use Rattle.std.proofs.Common.{inl, inr, ap, sym, ◌∙◌, arith}
use Rattle.std.proofs.lemmas.Bool.Decides.{nat_tests}
use Rattle.rsx_sources.specs.Prelude.{Note, Nothing, Ending, Open, Done, Failed, Signal, Meaning, Stream, ended_by, AreWithin, CanStep, IsHungry, ends_input, Incoming, incoming_of, quiet}
use Rattle.rsx_demand.specs.declared.TheConstants.{UNBOUNDED}
use Rattle.rsx_sources.specs.declared.machine.Front.{Front}
use Rattle.rsx_sources.specs.declared.machine.Front.TheVariants.{Item, Completion, Failure}
use Rattle.rsx_queued.specs.declared.output.Output.{Output}
use Rattle.rsx_queued.specs.declared.output.Output.TheVariants.{Empty, Waiting, Over}
use Rattle.rsx_queued.specs.Prelude.{ended_out, offers_ending, ending_there, empty_of, settled, same_row, is_empty, output_then}
use Rattle.rsx_values.specs.Concat.{value_then}
use Rattle.rsx_merging.specs.declared.concat_node.ConcatNode.{ConcatNode}
use Rattle.rsx_merging.specs.Concat.{concat_left, concat_comes_out, concat_waiting, concat_takes, concat_ended, concat_done, concat_wanted, has_ended, takes_in_turn, turn, waits, IsSplit, IsInTurn}

pub concat_drops : {T : Type 0} (m : Meaning T) (n : ConcatNode T) (inc other : Incoming T) (further : Note) → concat_ended n ≡ true → concat_comes_out m n inc further ≡ concat_comes_out m n other further
concat_drops m n inc other further e = ended_out n.output _ _ (quiet further (ended_by Done)) e

pub concat_ends : {T : Type 0} (m : Meaning T) (n : ConcatNode T) (s : Signal T) (inc other : Incoming T) (further : Note) → concat_waiting m n ≡ Some s → ends_input s ≡ true → concat_comes_out m n inc further ≡ concat_comes_out m n other further
concat_ends m n s inc other further w e = concat_drops m n inc other further (offers_ending n.output s w e)

-- what comes in at an input whose ending came in doesn't matter
done_left : {T : Type 0} (es : List Ending) (before after : List (Stream T)) (v w : Stream T) → has_ended (slice_get es (length before)) ≡ true → concat_left es (before ++ v ∷ after) ≡ concat_left es (before ++ w ∷ after)
done_left [] before after v w d = refl
done_left (Open ∷ es) [] after v w d = cc
done_left (Done ∷ es) [] after v w d = refl
done_left (Failed c ∷ es) [] after v w d = refl
done_left (Open ∷ es) (b ∷ before) after v w d = ap (value_then b) (done_left es before after v w d)
done_left (Done ∷ es) (b ∷ before) after v w d = done_left es before after v w d
done_left (Failed c ∷ es) (b ∷ before) after v w d = refl

pub concat_done_drops : {T : Type 0} (m : Meaning T) (n : ConcatNode T) (hubs before after : List (Stream T)) (v w : Stream T) (further : Note) → concat_done n (length before) ≡ true →
    concat_comes_out m n (incoming_of hubs (before ++ v ∷ after)) further ≡ concat_comes_out m n (incoming_of hubs (before ++ w ∷ after)) further
concat_done_drops m n hubs before after v w further d =
    let of_value : Stream _ → Option (Stream _) = λ z. output_then n.output (quiet further z) (quiet further (ended_by Done)) in
    ap of_value (ap (concat_left n.endings.items) (same_row hubs before after v) ∙ (done_left n.endings.items before after v w d ∙ ap (concat_left n.endings.items) (sym (same_row hubs before after w))))

pub concat_settles : {T : Type 0} (m : Meaning T) (n : ConcatNode T) (inc : Incoming T) → (v : Stream T) × (concat_comes_out m n inc Nothing ≡ Some v)
concat_settles m n inc = settled n.output _ _

pub concat_ending_waits : {T : Type 0} (m : Meaning T) (n : ConcatNode T) (asked sent : ℕ) → concat_ended n ≡ true → concat_waiting m n ≡ None → sent < asked → CanStep (λ k i a s. false) (λ k a s. false) n asked sent
concat_ending_waits m n asked sent e none more = absurd (ending_there n.output e none)

-- ---- it isn't stuck

pub turn_open : (es : List Ending) (cs : List ℕ) (e k : ℕ) → IsSplit es cs e k → slice_get es (turn es) ≡ Some Open
turn_open [] cs e k h = absurd h
turn_open (Open ∷ es) [] e k h = absurd h
turn_open (Done ∷ es) [] e k h = absurd h
turn_open (Failed f ∷ es) [] e k h = absurd h
turn_open (Open ∷ es) (c ∷ cs) e k h = refl
turn_open (Done ∷ es) (c ∷ cs) e k h = turn_open es cs h.0 k h.2
turn_open (Failed f ∷ es) (c ∷ cs) e k h = absurd h

turn_taken : (es : List Ending) (cs : List ℕ) (e k : ℕ) → IsSplit es cs e k → slice_get cs (turn es) ≡ Some k
turn_taken [] cs e k h = absurd h
turn_taken (Open ∷ es) [] e k h = absurd h
turn_taken (Done ∷ es) [] e k h = absurd h
turn_taken (Failed f ∷ es) [] e k h = absurd h
turn_taken (Open ∷ es) (c ∷ cs) e k h = ap Some (sym h.1)
turn_taken (Done ∷ es) (c ∷ cs) e k h = turn_taken es cs h.0 k h.2
turn_taken (Failed f ∷ es) (c ∷ cs) e k h = absurd h

pub equal_itself : (k : ℕ) → nat_eq k k ≡ true
equal_itself k = grind (arith, nat_tests)

takes_any : (f : Front) → takes_in_turn true f ≡ true
takes_any Item = refl
takes_any Completion = refl
takes_any (Failure c) = refl

none_waits : {T : Type 0} (out : Output T) → is_empty out ≡ true → waits out ≡ 0
none_waits Empty e = refl
none_waits (Waiting s) e = cc
none_waits Over e = cc

pub concat_hungry : {T : Type 0} (m : Meaning T) (n : ConcatNode T) (taken : List ℕ) (asked sent : ℕ) → concat_ended n ≡ false → IsInTurn n taken sent → concat_waiting m n ≡ None → sent < asked → AreWithin taken →
    IsHungry concat_takes (λ k i a s. false) (λ k a s. false) concat_done concat_wanted (λ k. None) n taken asked sent
concat_hungry {T} m n taken asked sent still counted none more within =
    let open_there = turn_open n.endings.items taken counted.before counted.mine counted.split in
    let empty = empty_of n.output none counted.not_over in
    let sum : sent + waits n.output ≡ counted.before + counted.mine = counted.total in
    let zero_waits : waits n.output ≡ 0 = none_waits n.output empty in
    let low : n.earlier ≡ min UNBOUNDED counted.before = counted.earlier in
    let lacks : counted.mine < asked - n.earlier = omega (arith, sum, zero_waits, low, more) in
    inr (inr (inl (record {
      i = turn n.endings.items;
      c = counted.mine;
      at = turn_taken n.endings.items taken counted.before counted.mine counted.split;
      open_still = ap has_ended open_there;
      takes_any = λ f. rw (empty, open_there, equal_itself (turn n.endings.items)) (takes_any f);
      wants = rw (equal_itself (turn n.endings.items)) lacks;
    })))
