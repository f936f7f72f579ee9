-- A lane, or Main, is picked: the value under the choice, and the counts.
use Rattle.std.proofs.Common.{◌≡◌, ℕ, zero, suc, ◌&&◌, Bool, true, false, nat_eq, nat_lt, if◌then◌else◌, List, [], ◌∷◌, ◌++◌, Option, Some, None, option_map, inl, refl, ap, sym, ◌∙◌, subst}
use Rattle.std.specs.Prelude.{⊤}
use Rattle.rsx_sources.specs.Prelude.{Note, Picks, Cause, Signal, Next, Complete, Error, Meaning, note_then, Stream, CountsStep, Incoming, IsSteppedOut, incoming_of, front_of, is_nil, head_of}
use Rattle.rsx_values.specs.Prelude.{merge_inputs, InputLeft, next_of, next_here, TakesNext, written}
use Rattle.rsx_values.specs.declared.record.Run.{Run}
use Rattle.rsx_queued.proofs.Merged.{item_chosen, completion_chosen, last_chosen, failure_chosen, none_chosen, picks_compose}
use Rattle.rsx_queued.proofs.Outputs.{empty_is, item_leaves, not_ended}
use Rattle.rsx_queued.specs.Prelude.{merge_behind, has_ending, is_over, is_empty, output_then}
use Rattle.rsx_queued.specs.declared.output.Output.{Output}
use Rattle.rsx_queued.specs.declared.output.Output.TheVariants.{Empty, Waiting}
use Rattle.rsx_values.proofs.Nexts.{next_front as next_before}
use Rattle.rsx_sources.proofs.Incomings.{first_in}
use Rattle.rsx_merging.specs.Coming.{lanes_to_come, unless_closed}
use Rattle.rsx_merging.specs.FlatMap.{flat_comes_out, flat_waiting, flat_ended, flat_done, flat_picks, flat_popped, flat_recording, flat_recorded, left_of, IsGoing}
use Rattle.rsx_merging.specs.Lanes.{next_front, may_take, AreWhole}
use Rattle.rsx_merging.specs.declared.flat_map_node.FlatMapNode.{FlatMapNode}

-- after a pick: these lanes are left, this is put out, and these choices are recorded
abbrev pub with_pick : {T : Type 0} → FlatMapNode T → List (InputLeft T) → Output T → List Run → FlatMapNode T
with_pick n is out choices = record n { lanes = is; output = out; choices = choices }

-- the signal s of input i is next, and these lanes are left behind it
pub record IsPick {T : Type 0} (n : FlatMapNode T) (i : ℕ) (s : Signal T) (js : List (InputLeft T)) : Type 0 where
  pub empty : n.output ≡ Empty
  pub next : next_of i n.lanes ≡ Some (s, js)

-- ---- the value

coming : {T : Type 0} → Meaning T → FlatMapNode T → Stream T → List (InputLeft T)
coming m n v = unless_closed n.closed (lanes_to_come m n.expansion.function n.expansion.stages.items n.next v)

-- the choice takes it
taken_next : {T : Type 0} (m : Meaning T) (n : FlatMapNode T) (i : ℕ) (s : Signal T) (js : List (InputLeft T)) (v : Stream T) → IsPick n i s js → next_of i (left_of m n v) ≡ Some (s, js ++ coming m n v)
unfolding coming
taken_next m n i s js v p = next_before i n.lanes (coming m n v) js s p.next

pub item_picked : {T : Type 0} (m : Meaning T) (n : FlatMapNode T) (i : ℕ) (x : T) (js : List (InputLeft T)) (out : Output T) (choices : List Run) → IsPick n i (Next x) js → out ≡ Waiting (Next x) →
    (inc : Incoming T) (further : Note) → flat_comes_out m (with_pick n js out choices) inc further ≡ flat_comes_out m n inc (note_then (Picks (i ∷ [])) further)
unfolding coming
item_picked m n i x js out choices p put inc = item_chosen n.output out (left_of m n inc.first) (js ++ coming m n inc.first) i x p.empty put (taken_next m n i (Next x) js inc.first p)

pub completion_picked : {T : Type 0} (m : Meaning T) (n : FlatMapNode T) (i : ℕ) (js : List (InputLeft T)) (choices : List Run) → IsPick n i Complete js →
    (inc : Incoming T) (further : Note) → flat_comes_out m (with_pick n js n.output choices) inc further ≡ flat_comes_out m n inc (note_then (Picks (i ∷ [])) further)
unfolding coming
completion_picked m n i js choices p inc = completion_chosen n.output n.output (left_of m n inc.first) (js ++ coming m n inc.first) i p.empty p.empty (taken_next m n i Complete js inc.first p)

pub none_left : {T : Type 0} (js is : List (InputLeft T)) (closed : Bool) → closed ≡ true → is_nil js ≡ true → js ++ unless_closed closed is ≡ []
none_left [] is true c e = refl
none_left [] is false c e = cc
none_left (j ∷ js) is closed c e = cc

pub last_picked : {T : Type 0} (m : Meaning T) (n : FlatMapNode T) (i : ℕ) (js : List (InputLeft T)) (out : Output T) (choices : List Run) → IsPick n i Complete js → out ≡ Waiting Complete → n.closed ≡ true → is_nil js ≡ true →
    (inc : Incoming T) (further : Note) → flat_comes_out m (with_pick n js out choices) inc further ≡ flat_comes_out m n inc (note_then (Picks (i ∷ [])) further)
unfolding coming
last_picked m n i js out choices p put gone none inc =
    last_chosen n.output out (left_of m n inc.first) (js ++ coming m n inc.first) i p.empty put (taken_next m n i Complete js inc.first p)
    (none_left js (lanes_to_come m n.expansion.function n.expansion.stages.items n.next inc.first) n.closed gone none)

pub failure_picked : {T : Type 0} (m : Meaning T) (n : FlatMapNode T) (i : ℕ) (c : Cause) (js left : List (InputLeft T)) (out : Output T) (choices : List Run) → IsPick n i (Error c) js → out ≡ Waiting (Error c) →
    (inc : Incoming T) (further : Note) → flat_comes_out m (record (with_pick n left out choices) { closed = true }) inc further ≡ flat_comes_out m n inc (note_then (Picks (i ∷ [])) further)
failure_picked m n i c js left out choices p put inc =
    failure_chosen n.output out (left_of m n inc.first) (js ++ coming m n inc.first) (left_of m (record (with_pick n left out choices) { closed = true }) inc.first) i c p.empty put (taken_next m n i (Error c) js inc.first p)

-- ---- what the code knows

pub and_left : (a b : Bool) → a && b ≡ true → a ≡ true
and_left true b e = refl
and_left false b e = e

pub and_right : (a b : Bool) → a && b ≡ true → b ≡ true
and_right true b e = e
and_right false b e = cc

-- the code's facts make a pick
pub is_pick : {T : Type 0} (n : FlatMapNode T) (i asked sent : ℕ) (o : Option (Signal T)) (t s : Signal T) (js : List (InputLeft T)) → flat_picks n i asked sent ≡ true → TakesNext i n.lanes o js → o ≡ Some t → t ≡ s → IsPick n i s js
is_pick {T} n i asked sent o t s js picks taken is at =
    record {
      empty = empty_is n.output (and_left (is_empty n.output) (may_take (next_front i n.lanes) (nat_lt sent asked)) picks);
      next = subst (λ z. TakesNext i n.lanes z js) (is ∙ ap (λ z. Some z) at) taken;
    }

-- a lane that can be picked gives a signal
pub gives_some : {T : Type 0} (n : FlatMapNode T) (i asked sent : ℕ) (o : Option (Signal T)) (js : List (InputLeft T)) → flat_picks n i asked sent ≡ true → TakesNext i n.lanes o js → o ≡ None → ⊥
gives_some {T} n i asked sent o js picks taken is =
    let none : next_of i n.lanes ≡ None = subst (λ z. TakesNext i n.lanes z js) is taken in
    let may : may_take (next_front i n.lanes) (nat_lt sent asked) ≡ true = and_right (is_empty n.output) (may_take (next_front i n.lanes) (nat_lt sent asked)) picks in
    never (may_take (next_front i n.lanes) (nat_lt sent asked)) may (ap (λ z. may_take (option_map (λ p. front_of p.0) z) (nat_lt sent asked)) none)
  where
    never : (b : Bool) → b ≡ true → b ≡ false → ⊥
    never b x y = cc

-- ---- the counts

-- the lanes that are left have their endings, and behind an item there is one
abbrev pub StaysWhole : {T : Type 0} → Option (Signal T × List (InputLeft T)) → Type 0
StaysWhole None = ⊤
StaysWhole (Some (Next x, js)) = AreWhole js × (is_nil js ≡ false)
StaysWhole (Some (Complete, js)) = AreWhole js
StaysWhole (Some (Error c, js)) = AreWhole js

here_whole : {T : Type 0} (k : ℕ) (ss : List (Signal T)) (is : List (InputLeft T)) → AreWhole ((k, ss) ∷ is) → StaysWhole (next_here k ss is)
here_whole k [] is h = tt
here_whole k (Next x ∷ ss) is h = ((h.0, h.1, h.2), refl)
here_whole k (Complete ∷ ss) is h = h.2
here_whole k (Error c ∷ ss) is h = h.2

beside_whole : {T : Type 0} (i : InputLeft T) (o : Option (Signal T × List (InputLeft T))) → AreWhole (i ∷ []) → StaysWhole o → StaysWhole (option_map (λ p. (p.0, i ∷ p.1)) o)
beside_whole i None h k = tt
beside_whole i (Some (Next x, js)) h k = ((h.0, h.1, k.0), refl)
beside_whole i (Some (Complete, js)) h k = (h.0, h.1, k)
beside_whole i (Some (Error c, js)) h k = (h.0, h.1, k)

pub stays_whole : {T : Type 0} (c : ℕ) (is : List (InputLeft T)) → AreWhole is → StaysWhole (next_of c is)
stays_whole c [] h = tt
stays_whole {T} c (i ∷ is) h = by_test (nat_eq c i.0) (stays_whole c is h.2)
  where
    by_test : (b : Bool) → StaysWhole (next_of c is) → StaysWhole (if b then next_here i.0 i.1 is else option_map (λ p. (p.0, i ∷ p.1)) (next_of c is))
    by_test true k = here_whole i.0 i.1 is h
    by_test false k = beside_whole i (next_of c is) (h.0, h.1, tt) k

pub done_same : {T : Type 0} (old new : FlatMapNode T) (j : ℕ) → (old.closed ≡ true → new.closed ≡ true) → flat_done old j ≡ true → flat_done new j ≡ true
done_same old new zero h d = h d
done_same old new (suc j) h d = refl

item_left : (closed : Bool) (b : Bool) → b ≡ false → closed && b ≡ false
item_left true b e = e
item_left false b e = refl

pub item_counts : {T : Type 0} (n : FlatMapNode T) (i : ℕ) (x : T) (js : List (InputLeft T)) (out : Output T) (choices : List Run) → IsPick n i (Next x) js → out ≡ Waiting (Next x) → CountsStep IsGoing flat_ended flat_done n (with_pick n js out choices)
item_counts n i x js out choices p put =
    record {
      stays_ended = λ e. absurd (not_ended n.output p.empty e);
      counts = λ still taken sent h.
          let left : StaysWhole (Some (Next x, js)) = subst StaysWhole p.next (stays_whole i n.lanes h.whole) in
          record {
            not_over = ap is_over put;
            some_left = item_left n.closed (is_nil js) left.1;
            whole = left.0;
            counts = h.counts;
          };
      stays_done = λ j d. done_same n (with_pick n js out choices) j (λ c. c) d;
    }

pub completion_counts : {T : Type 0} (n : FlatMapNode T) (i : ℕ) (js : List (InputLeft T)) (choices : List Run) → IsPick n i Complete js → n.closed && is_nil js ≡ false → CountsStep IsGoing flat_ended flat_done n (with_pick n js n.output choices)
completion_counts n i js choices p some =
    record {
      stays_ended = λ e. absurd (not_ended n.output p.empty e);
      counts = λ still taken sent h. record {
        not_over = h.not_over;
        some_left = some;
        whole = subst StaysWhole p.next (stays_whole i n.lanes h.whole);
        counts = h.counts;
      };
      stays_done = λ j d. done_same n (with_pick n js n.output choices) j (λ c. c) d;
    }

-- the node ends
pub ending_counts : {T : Type 0} (old new : FlatMapNode T) → old.output ≡ Empty → flat_ended new ≡ true → (old.closed ≡ true → new.closed ≡ true) → CountsStep IsGoing flat_ended flat_done old new
ending_counts old new e h closed =
    record {
      stays_ended = λ x. h;
      counts = λ still. absurd (both (flat_ended new) h still);
      stays_done = λ j d. done_same old new j closed d;
    }
  where
    both : (b : Bool) → b ≡ true → b ≡ false → ⊥
    both b x y = cc

-- ---- an item of a lane is picked, and goes out at once

pub item_gone : {T : Type 0} (m : Meaning T) (old new : FlatMapNode T) (i asked sent : ℕ) (x : T) (js : List (InputLeft T)) → flat_picks old i asked sent ≡ true → IsPick old i (Next x) js → new ≡ with_pick old js old.output new.choices → written new.choices ≡ written old.choices ++ i ∷ [] →
    IsSteppedOut (flat_comes_out m) (flat_waiting m) flat_picks (λ n a s. false) (λ n a s k. ⊥) flat_popped flat_recording flat_recorded IsGoing flat_ended flat_done old asked sent (Some x) new
item_gone {T} m old new i asked sent x js picks p is notes =
    let mid : FlatMapNode T = with_pick old js (Waiting (Next x)) new.choices in
    let P : FlatMapNode T → Type 0 = λ n. IsSteppedOut (flat_comes_out m) (flat_waiting m) flat_picks (λ n a s. false) (λ n a s k. ⊥) flat_popped flat_recording flat_recorded IsGoing flat_ended flat_done old asked sent (Some x) n in
    subst P (sym is) (
      mid,
      inl (
        i,
        record {
          enabled = picks;
          value = λ inc further. item_picked m old i x js (Waiting (Next x)) new.choices p refl inc further;
          notes = ap Picks notes;
          composes = picks_compose (written old.choices) (i ∷ []);
          counts = item_counts old i x js (Waiting (Next x)) new.choices p refl;
        },
      ),
      record {
        waited = refl;
        popped_out = ((refl, p.empty), refl);
        value = λ inc further. item_leaves (Waiting (Next x)) old.output x (λ cs. merge_inputs cs (left_of m mid inc.first)) (λ cs. merge_inputs cs []) refl p.empty further;
        notes = refl;
        counts = (ap has_ending p.empty, (λ taken n h. record { not_over = ap is_over p.empty; some_left = h.some_left; whole = h.whole; counts = h.counts }), λ j d. d);
      },
    )

-- ---- where nothing more is chosen

pub rest_out : {T : Type 0} (m : Meaning T) (n : FlatMapNode T) (cs : List ℕ) (vs : List (Stream T)) (rest v : Stream T) → merge_inputs [] (left_of m n (head_of vs)) ≡ Some rest → output_then n.output (Some rest) (merge_inputs [] []) ≡ Some v →
    (hubs : List (Stream T)) (further : Note) → ⊤ → note_then (Picks cs) further ≡ Picks cs → flat_comes_out m n (incoming_of hubs vs) further ≡ Some v
rest_out m n cs vs rest v is gives hubs further behind none =
    ap (λ w. merge_behind n.output (left_of m n w) further) (first_in hubs vs) ∙ none_chosen n.output (left_of m n (head_of vs)) cs rest v is gives further none
