-- A lane, or Main, is picked: the value under the choice, and the counts.
use Rattle.std.proofs.Common.{◌≡◌, ℕ, ◌&&◌, Bool, true, false, List, [], ◌∷◌, ◌++◌, Option, Some, None, refl, ap, sym, ◌∙◌, subst}
use Rattle.std.specs.Prelude.{⊤}
use Rattle.std.proofs.lemmas.Bool.{and_parts}
use Rattle.rsx_sources.specs.Prelude.{Note, Picks, Cause, Signal, Next, Complete, Error, Meaning, note_then, Stream, CountsStep, Incoming, incoming_of, is_nil, ends_input, head_of}
use Rattle.rsx_values.specs.Pick.{InputLeft, next_of}
use Rattle.rsx_values.specs.declared.record.Run.{Run}
use Rattle.rsx_queued.proofs.Outputs.{not_ended}
use Rattle.rsx_queued.proofs.Picks.{none_more}
use Rattle.rsx_queued.specs.Prelude.{is_over, output_then}
use Rattle.rsx_queued.specs.declared.output.Output.{Output}
use Rattle.rsx_queued.specs.declared.output.Output.TheVariants.{Empty, Waiting}
use Rattle.rsx_values.proofs.Nexts.{next_front as next_before}
use Rattle.rsx_sources.proofs.Incomings.{first_in}
use Rattle.rsx_merging.proofs.Picked.{IsPick, StaysWhole, stays_whole, with_pick, none_left, done_same}
use Rattle.rsx_merging.proofs.Picked.{item_counts as flat_item_counts, ending_counts as flat_ending_counts}
use Rattle.rsx_merging.specs.Coming.{lanes_to_come, unless_closed}
use Rattle.rsx_merging.specs.FlatMap.{flat_done, flat_ended, left_of, IsGoing}
use Rattle.rsx_merging.specs.Lanes.{AreWhole}
use Rattle.rsx_merging.specs.declared.flat_map_node.FlatMapNode.{FlatMapNode}
use Rattle.rsx_delayed.proofs.Choices.{delayed_step}
use Rattle.rsx_delayed.proofs.Picked.{item_chosen, ending_chosen, last_ends}
use Rattle.rsx_values.specs.Delayed.{first_cause, merge_delayed_inputs}
use Rattle.rsx_delayed.specs.MergeDelay.{delayed_behind, ending_out}
use Rattle.rsx_delayed.specs.FlatMapDelay.{flat_delay_comes_out, flat_delay_counted, flat_delay_done, flat_delay_ended}
use Rattle.rsx_delayed.specs.declared.flat_map_delay_node.FlatMapDelayNode.{FlatMapDelayNode}

-- ---- the value

-- the lanes that are left, and then those that still come
abbrev and_coming : {T : Type 0} → Meaning T → FlatMapNode T → List (InputLeft T) → Stream T → List (InputLeft T)
and_coming m n js v = js ++ unless_closed n.closed (lanes_to_come m n.expansion.function n.expansion.stages.items n.next v)

-- the choice takes it
taken_next : {T : Type 0} (m : Meaning T) (n : FlatMapNode T) (i : ℕ) (s : Signal T) (js : List (InputLeft T)) (v : Stream T) → IsPick n i s js → next_of i (left_of m n v) ≡ Some (s, and_coming m n js v)
taken_next m n i s js v p = next_before i n.lanes (unless_closed n.closed (lanes_to_come m n.expansion.function n.expansion.stages.items n.next v)) js s p.next

pub item_picked : {T : Type 0} (m : Meaning T) (n : FlatMapDelayNode T) (i : ℕ) (x : T) (js : List (InputLeft T)) (out : Output T) (choices : List Run) → IsPick n.flat i (Next x) js → out ≡ Waiting (Next x) →
    (inc : Incoming T) (further : Note) → flat_delay_comes_out m (record n { flat = with_pick n.flat js out choices }) inc further ≡ flat_delay_comes_out m n inc (note_then (Picks (i ∷ [])) further)
item_picked m n i x js out choices p put inc = item_chosen n.flat.output out n.kept (left_of m n.flat inc.first) (and_coming m n.flat js inc.first) i x p.empty put (taken_next m n.flat i (Next x) js inc.first p)

-- the ending of a lane, after which this is the first failure
ending_picked : {T : Type 0} (m : Meaning T) (n : FlatMapDelayNode T) (new : FlatMapNode T) (now : Option Cause) (i : ℕ) (s : Signal T) (js : List (InputLeft T)) (choices : List Run) → IsPick n.flat i s js → new ≡ with_pick n.flat js new.output choices → new.output ≡ ending_out (n.flat.closed && is_nil js) now →
    ((cs : List ℕ) (is ks : List (InputLeft T)) → next_of i is ≡ Some (s, ks) → merge_delayed_inputs n.kept (i ∷ cs) is ≡ merge_delayed_inputs now cs ks) →
    (inc : Incoming T) (further : Note) → delayed_behind new.output now (left_of m new inc.first) further ≡ flat_delay_comes_out m n inc (note_then (Picks (i ∷ [])) further)
ending_picked {T} m n new now i s js choices p is put step inc further =
    let left = left_of m n.flat inc.first in
    let behind = and_coming m n.flat js inc.first in
    let gone : n.flat.closed && is_nil js ≡ true → behind ≡ [] =
    λ e. none_left js (lanes_to_come m n.flat.expansion.function n.flat.expansion.stages.items n.flat.next inc.first) n.flat.closed (and_parts n.flat.closed (is_nil js) e).0 (and_parts n.flat.closed (is_nil js) e).1 in
    ap (λ z. delayed_behind new.output now (left_of m z inc.first) further) is
    ∙ ending_chosen n.flat.output new.output n.kept now left behind i (n.flat.closed && is_nil js) p.empty put gone (λ cs. step cs left behind (taken_next m n.flat i s js inc.first p)) further

pub completion_picked : {T : Type 0} (m : Meaning T) (n new : FlatMapDelayNode T) (i : ℕ) (js : List (InputLeft T)) (choices : List Run) → IsPick n.flat i Complete js → new.flat ≡ with_pick n.flat js new.flat.output choices → new.kept ≡ n.kept → new.flat.output ≡ ending_out (n.flat.closed && is_nil js) n.kept →
    (inc : Incoming T) (further : Note) → flat_delay_comes_out m new inc further ≡ flat_delay_comes_out m n inc (note_then (Picks (i ∷ [])) further)
completion_picked m n new i js choices p is same put inc further =
    ap (λ k. delayed_behind new.flat.output k (left_of m new.flat inc.first) further) same
    ∙ ending_picked m n new.flat n.kept i Complete js choices p is put (λ cs is ks h. delayed_step i cs is ks Complete n.kept h) inc further

pub failure_picked : {T : Type 0} (m : Meaning T) (n new : FlatMapDelayNode T) (first : Option Cause) (i : ℕ) (c : Cause) (js : List (InputLeft T)) (choices : List Run) → IsPick n.flat i (Error c) js → new.flat ≡ with_pick n.flat js new.flat.output choices → first ≡ first_cause n.kept c → new.kept ≡ first →
    new.flat.output ≡ ending_out (n.flat.closed && is_nil js) first →
    (inc : Incoming T) (further : Note) → flat_delay_comes_out m new inc further ≡ flat_delay_comes_out m n inc (note_then (Picks (i ∷ [])) further)
failure_picked m n new first i c js choices p is kept same put inc further =
    ap (λ k. delayed_behind new.flat.output k (left_of m new.flat inc.first) further) (same ∙ kept)
    ∙ ending_picked m n new.flat (first_cause n.kept c) i (Error c) js choices p is (put ∙ ap (ending_out (n.flat.closed && is_nil js)) kept) (λ cs is ks h. delayed_step i cs is ks (Error c) n.kept h) inc further

-- ---- the counts are those of a `flatMap`

counts_step : {T : Type 0} (old new : FlatMapDelayNode T) → CountsStep IsGoing flat_ended flat_done old.flat new.flat → CountsStep flat_delay_counted flat_delay_ended flat_delay_done old new
counts_step old new h = record { stays_ended = h.stays_ended; counts = h.counts; stays_done = h.stays_done }

pub item_counts : {T : Type 0} (n : FlatMapDelayNode T) (i : ℕ) (x : T) (js : List (InputLeft T)) (out : Output T) (choices : List Run) → IsPick n.flat i (Next x) js → out ≡ Waiting (Next x) →
    CountsStep flat_delay_counted flat_delay_ended flat_delay_done n (record n { flat = with_pick n.flat js out choices })
item_counts n i x js out choices p put = counts_step n (record n { flat = with_pick n.flat js out choices }) (flat_item_counts n.flat i x js out choices p put)

whole_behind : {T : Type 0} (s : Signal T) (js : List (InputLeft T)) → ends_input s ≡ true → StaysWhole (Some (s, js)) → AreWhole js
whole_behind (Next x) js e h = cc
whole_behind Complete js e h = h
whole_behind (Error c) js e h = h

-- a lane, or Main, ended, and others are left
others_left : {T : Type 0} (n : FlatMapNode T) (i : ℕ) (s : Signal T) (js : List (InputLeft T)) (out : Output T) (choices : List Run) → IsPick n i s js → ends_input s ≡ true → out ≡ Empty → n.closed && is_nil js ≡ false →
    CountsStep IsGoing flat_ended flat_done n (with_pick n js out choices)
others_left n i s js out choices p ends put some =
    record {
      stays_ended = λ e. absurd (not_ended n.output p.empty e);
      counts = λ still taken sent h. record {
        not_over = ap is_over put;
        some_left = some;
        whole = whole_behind s js ends (subst StaysWhole p.next (stays_whole i n.lanes h.whole));
        counts = h.counts;
      };
      stays_done = λ j d. done_same n (with_pick n js out choices) j (λ c. c) d;
    }

ended_counts : {T : Type 0} (n : FlatMapNode T) (i : ℕ) (s : Signal T) (js : List (InputLeft T)) (out : Output T) (now : Option Cause) (choices : List Run) → IsPick n i s js → ends_input s ≡ true → out ≡ ending_out (n.closed && is_nil js) now →
    CountsStep IsGoing flat_ended flat_done n (with_pick n js out choices)
ended_counts {T} n i s js out now choices p ends put = by_gone (n.closed && is_nil js) refl put
  where
    by_gone : (b : Bool) → n.closed && is_nil js ≡ b → out ≡ ending_out b now → CountsStep IsGoing flat_ended flat_done n (with_pick n js out choices)
    by_gone false some is = others_left n i s js out choices p ends is some
    by_gone true gone is = flat_ending_counts n (with_pick n js out choices) p.empty (ap (λ o. flat_ended (with_pick n js o choices)) is ∙ last_ends T now) (λ c. c)

pub ending_counts : {T : Type 0} (n new : FlatMapDelayNode T) (i : ℕ) (s : Signal T) (js : List (InputLeft T)) (now : Option Cause) (choices : List Run) → IsPick n.flat i s js → ends_input s ≡ true → new.flat ≡ with_pick n.flat js new.flat.output choices → new.flat.output ≡ ending_out (n.flat.closed && is_nil js) now →
    CountsStep flat_delay_counted flat_delay_ended flat_delay_done n new
ending_counts {T} n new i s js now choices p ends is put =
    let P : FlatMapNode T → Type 0 = λ z. CountsStep IsGoing flat_ended flat_done n.flat z in
    counts_step n new (subst P (sym is) (ended_counts n.flat i s js new.flat.output now choices p ends put))

-- ---- where nothing more is chosen

pub rest_is : {T : Type 0} (kept : Option Cause) (is lanes : List (InputLeft T)) (o : Option (Stream T)) (rest : Stream T) → lanes ≡ is → o ≡ merge_delayed_inputs kept [] lanes → o ≡ Some rest → merge_delayed_inputs kept [] is ≡ Some rest
rest_is kept is lanes o rest left value some = ap (merge_delayed_inputs kept []) (sym left) ∙ sym value ∙ some

pub rest_out : {T : Type 0} (m : Meaning T) (n : FlatMapDelayNode T) (cs : List ℕ) (vs : List (Stream T)) (rest v : Stream T) → merge_delayed_inputs n.kept [] (left_of m n.flat (head_of vs)) ≡ Some rest → output_then n.flat.output (Some rest) (merge_delayed_inputs None [] []) ≡ Some v →
    (hubs : List (Stream T)) (further : Note) → ⊤ → note_then (Picks cs) further ≡ Picks cs → flat_delay_comes_out m n (incoming_of hubs vs) further ≡ Some v
rest_out m n cs vs rest v is gives hubs further behind none =
    ap (λ w. delayed_behind n.flat.output n.kept (left_of m n.flat w) further) (first_in hubs vs)
    ∙ rw (none_more cs further none) (ap (λ o. output_then n.flat.output o (merge_delayed_inputs None [] [])) is ∙ gives)
