-- An input is picked: the value under the choice, and the counts.
use Rattle.std.proofs.lemmas.List.{length-set}
use Rattle.std.proofs.Common.{◌≡◌, ℕ, zero, suc, ◌+◌, ◌<◌, ◌&&◌, Bool, true, false, List, [], ◌∷◌, ◌++◌, length, slice_index_or, slice_set, slice_get, Option, Some, None, option_map, IfSome, inl, refl, ap, sym, ◌∙◌, subst, arith}
use Rattle.rsx_sources.specs.Prelude.{Note, Picks, Cause, Signal, Next, Complete, Error, Meaning, note_then, Stream, CountsStep, Incoming, IsItemOut, IsPickDone, IsSteppedOut, front_of}
use Rattle.rsx_queued.specs.declared.tail.Tail.{Tail}
use Rattle.rsx_queued.specs.declared.tail.Tail.TheVariants.{Open, Completion, Failure, Taken}
use Rattle.rsx_queued.specs.Prelude.{first_held, is_ended, unless_taken, still, is_taken, is_gone, next_signal, without, Gives, IsCounted, is_over, is_empty, has_ending, head_of, tail_of, next_signal_at, done_at, inputs_left, are_gone, AreCounted, may_go}
use Rattle.rsx_queued.proofs.Counts.{counted_without}
use Rattle.rsx_queued.proofs.Merged.{item_chosen, completion_chosen, last_chosen, failure_chosen, picks_compose}
use Rattle.rsx_queued.proofs.Outputs.{empty_is, item_leaves, not_ended}
use Rattle.rsx_queued.specs.declared.input.QueuedInput.{QueuedInput}
use Rattle.rsx_queued.specs.declared.output.Output.{Output}
use Rattle.rsx_queued.specs.declared.output.Output.TheVariants.{Empty, Waiting}
use Rattle.rsx_values.specs.Prelude.{merge_inputs, next_of, written}
use Rattle.rsx_merging.specs.declared.merge_node.MergeNode.{MergeNode}
use Rattle.rsx_queued.proofs.Changed.{done_stays, not_gone_at}
use Rattle.rsx_queued.proofs.Picks.{unequal, next_first, next_beside, none_left}
use Rattle.rsx_merging.specs.Merge.{merge_of, merge_comes_out, merge_waiting, merge_picks, merge_popped, merge_recording, merge_recorded, merge_counted, merge_ended, merge_done}

-- ---- the choice finds its input

next_at : {T : Type 0} (c k : ℕ) (qs : List (QueuedInput T)) (i : ℕ) (q : QueuedInput T) (s : Signal T) (vs : List (Stream T)) (d : QueuedInput T) → c ≡ k + i → i < length qs → Gives (slice_index_or qs i d) s q →
    next_of c (inputs_left k qs vs) ≡ Some (s, inputs_left k (slice_set qs i q) vs)
next_at c k [] i q s vs d e lt g = absurd (omega arith)
next_at {T = T} c k (p ∷ qs) zero q s vs d e lt g =
    let same : c ≡ k = omega arith in
    rw same (next_first k (still p (head_of vs)) (still q (head_of vs)) (inputs_left (suc k) qs (tail_of vs)) s (g (head_of vs)))
next_at c k (p ∷ qs) (suc i) q s vs d e lt g =
    next_beside c k (still p (head_of vs)) (inputs_left (suc k) qs (tail_of vs)) (inputs_left (suc k) (slice_set qs i q) (tail_of vs)) s (unequal c k i e) (next_at c (suc k) qs i q s (tail_of vs) d (omega arith) (omega arith) g)

-- what the code did to pick the signal s of input i
pub record IsPick {T : Type 0} (out : Output T) (qs : List (QueuedInput T)) (i : ℕ) (s : Signal T) (old new : QueuedInput T) : Type 0 where
  pub empty : out ≡ Empty
  pub there : i < length qs
  pub was : old ≡ slice_index_or qs i old
  pub signal : Some s ≡ next_signal old
  pub gives : Gives old s new
  pub state : new ≡ without old (Some s)

-- the choice takes it
taken_next : {T : Type 0} (out : Output T) (qs : List (QueuedInput T)) (i : ℕ) (s : Signal T) (old new : QueuedInput T) → IsPick out qs i s old new → (vs : List (Stream T)) → next_of i (inputs_left 0 qs vs) ≡ Some (s, inputs_left 0 (slice_set qs i new) vs)
taken_next {T} out qs i s old new p vs =
    let P : QueuedInput T → Type 0 = λ q. Gives q s new in
    next_at i 0 qs i new s vs old (omega arith) p.there (subst P p.was p.gives)

pub item_picked : {T : Type 0} (out out' : Output T) (qs : List (QueuedInput T)) (i : ℕ) (x : T) (old new : QueuedInput T) → IsPick out qs i (Next x) old new → out' ≡ Waiting (Next x) →
    (inc : Incoming T) (further : Note) → merge_of out' (slice_set qs i new) inc further ≡ merge_of out qs inc (note_then (Picks (i ∷ [])) further)
item_picked out out' qs i x old new p put inc = item_chosen out out' (inputs_left 0 qs (inc.first ∷ inc.others)) (inputs_left 0 (slice_set qs i new) (inc.first ∷ inc.others)) i x p.empty put (taken_next out qs i (Next x) old new p (inc.first ∷ inc.others))

pub completion_picked : {T : Type 0} (out : Output T) (qs : List (QueuedInput T)) (i : ℕ) (old new : QueuedInput T) → IsPick out qs i Complete old new →
    (inc : Incoming T) (further : Note) → merge_of out (slice_set qs i new) inc further ≡ merge_of out qs inc (note_then (Picks (i ∷ [])) further)
completion_picked out qs i old new p inc = completion_chosen out out (inputs_left 0 qs (inc.first ∷ inc.others)) (inputs_left 0 (slice_set qs i new) (inc.first ∷ inc.others)) i p.empty p.empty (taken_next out qs i Complete old new p (inc.first ∷ inc.others))

and_left : (a b : Bool) → a && b ≡ true → a ≡ true
and_left true b e = refl
and_left false b e = e

and_right : (a b : Bool) → a && b ≡ true → b ≡ true
and_right true b e = e
and_right false b e = cc

pub last_picked : {T : Type 0} (out out' : Output T) (qs : List (QueuedInput T)) (i : ℕ) (old new : QueuedInput T) → IsPick out qs i Complete old new → out' ≡ Waiting Complete → are_gone (slice_set qs i new) ≡ true →
    (inc : Incoming T) (further : Note) → merge_of out' (slice_set qs i new) inc further ≡ merge_of out qs inc (note_then (Picks (i ∷ [])) further)
last_picked out out' qs i old new p put gone inc =
    last_chosen out out' (inputs_left 0 qs (inc.first ∷ inc.others)) (inputs_left 0 (slice_set qs i new) (inc.first ∷ inc.others)) i p.empty put (taken_next out qs i Complete old new p (inc.first ∷ inc.others)) (none_left 0 (slice_set qs i new) (inc.first ∷ inc.others) gone)

pub failure_picked : {T : Type 0} (out out' : Output T) (qs qs' : List (QueuedInput T)) (i : ℕ) (c : Cause) (old new : QueuedInput T) → IsPick out qs i (Error c) old new → out' ≡ Waiting (Error c) →
    (inc : Incoming T) (further : Note) → merge_of out' qs' inc further ≡ merge_of out qs inc (note_then (Picks (i ∷ [])) further)
failure_picked out out' qs qs' i c old new p put inc = failure_chosen out out' (inputs_left 0 qs (inc.first ∷ inc.others)) (inputs_left 0 (slice_set qs i new) (inc.first ∷ inc.others)) (inputs_left 0 qs' (inc.first ∷ inc.others)) i c p.empty put (taken_next out qs i (Error c) old new p (inc.first ∷ inc.others))

-- ---- what the code knows

-- an input that can be picked is there
pub there : {T : Type 0} (qs : List (QueuedInput T)) (i asked sent : ℕ) → may_go (option_map front_of (next_signal_at (slice_get qs i))) asked sent ≡ true → i < length qs
there [] i asked sent e = cc
there (q ∷ qs) zero asked sent e = omega arith
there (q ∷ qs) (suc i) asked sent e = let lt = there qs i asked sent e in omega arith

-- the code's facts make a pick
pub is_pick : {T : Type 0} (out : Output T) (qs : List (QueuedInput T)) (i asked sent : ℕ) (o : Option (Signal T)) (t s : Signal T) (old new : QueuedInput T) →
    is_empty out && may_go (option_map front_of (next_signal_at (slice_get qs i))) asked sent ≡ true → old ≡ slice_index_or qs i old → o ≡ next_signal old → new ≡ without old o → IfSome o (λ u. Gives old u new) → o ≡ Some t → t ≡ s → IsPick out qs i s old new
is_pick {T} out qs i asked sent o t s old new picks was signal state value is at =
    let whole : o ≡ Some s = is ∙ ap Some at in
    let P : Option (Signal T) → Type 0 = λ z. IfSome z (λ u. Gives old u new) in
    record {
      empty = empty_is out (and_left (is_empty out) (may_go (option_map front_of (next_signal_at (slice_get qs i))) asked sent) picks);
      there = there qs i asked sent (and_right (is_empty out) (may_go (option_map front_of (next_signal_at (slice_get qs i))) asked sent) picks);
      was = was;
      signal = sym whole ∙ signal;
      gives = subst P whole value;
      state = state ∙ ap (without old) whole;
    }

-- an input that can be picked gives a signal
pub gives_some : {T : Type 0} (out : Output T) (qs : List (QueuedInput T)) (i asked sent : ℕ) (old : QueuedInput T) → is_empty out && may_go (option_map front_of (next_signal_at (slice_get qs i))) asked sent ≡ true → old ≡ slice_index_or qs i old → next_signal old ≡ None → ⊥
gives_some {T} out qs i asked sent old picks was none = by_place qs i was (and_right (is_empty out) (may_go (option_map front_of (next_signal_at (slice_get qs i))) asked sent) picks)
  where
    by_place : (qs : List (QueuedInput T)) (i : ℕ) → old ≡ slice_index_or qs i old → may_go (option_map front_of (next_signal_at (slice_get qs i))) asked sent ≡ true → ⊥
    by_place [] i was e = cc
    by_place (q ∷ qs) zero was e = cc (sym none ∙ ap next_signal was)
    by_place (q ∷ qs) (suc i) was e = by_place qs i was e

-- ---- the counts

take_counted : {T : Type 0} (qs : List (QueuedInput T)) (i : ℕ) (q : QueuedInput T) (s : Signal T) (cs : List ℕ) → q ≡ slice_index_or qs i q → Some s ≡ next_signal q → AreCounted qs cs → AreCounted (slice_set qs i (without q (Some s))) cs
take_counted [] i q s [] at is h = tt
take_counted [] i q s (c ∷ cs) at is h = absurd h
take_counted (p ∷ qs) i q s [] at is h = absurd h
take_counted (p ∷ qs) zero q s (c ∷ cs) at is h = (subst (λ o. IsCounted (without q o) c) (sym is) (counted_without q c (subst (λ z. IsCounted z c) (sym at) h.0)), h.1)
take_counted (p ∷ qs) (suc i) q s (c ∷ cs) at is h = (h.0, take_counted qs i q s cs at is h.1)

ended_without : {T : Type 0} (q : QueuedInput T) (s : Signal T) → is_ended q.tail ≡ true → is_ended (without q (Some s)).tail ≡ true
ended_without q (Next x) e = e
ended_without q Complete e = refl
ended_without q (Error c) e = refl

not_gone_by : {T : Type 0} (t : Tail) (xs : List T) (s : Signal T) → Some s ≡ unless_taken t (first_held xs t) → is_taken t ≡ false
not_gone_by Open xs s e = refl
not_gone_by Completion xs s e = refl
not_gone_by (Failure c) xs s e = refl
not_gone_by Taken xs s e = cc

both : (b : Bool) → b ≡ true → b ≡ false → ⊥
both b x y = cc

done_kept : {T : Type 0} (qs : List (QueuedInput T)) (i j : ℕ) (s : Signal T) (q p : QueuedInput T) → q ≡ slice_index_or qs i q → p ≡ without q (Some s) → done_at (slice_get qs j) ≡ true → done_at (slice_get (slice_set qs i p) j) ≡ true
done_kept qs i j s q p at is d = done_stays qs i j q p at (λ e. ap (λ z. is_ended z.tail) is ∙ ended_without q s e) d

-- the node goes on
going_on : {T : Type 0} (old new : MergeNode T) (i : ℕ) (s : Signal T) (q p : QueuedInput T) → IsPick old.output old.inputs.items i s q p → new.inputs.items ≡ slice_set old.inputs.items i p → is_over new.output ≡ false → are_gone (slice_set old.inputs.items i p) ≡ false →
    CountsStep merge_counted merge_ended merge_done old new
going_on {T} old new i s q p k ins going left =
    record {
      stays_ended = λ e. absurd (not_ended old.output k.empty e);
      counts = λ still taken sent h. rw ins (record {
        not_over = going;
        some_left = left;
        few = let few = h.few in rw length-set few;
        counts = rw k.state (take_counted old.inputs.items i q s taken k.was k.signal h.counts);
      });
      stays_done = λ j d. rw ins (done_kept old.inputs.items i j s q p k.was k.state d);
    }

-- it ends
ending : {T : Type 0} (old new : MergeNode T) → old.output ≡ Empty → has_ending new.output ≡ true → ((j : ℕ) → merge_done old j ≡ true → merge_done new j ≡ true) → CountsStep merge_counted merge_ended merge_done old new
ending old new e h done = record {
  stays_ended = λ x. h;
  counts = λ still. absurd (both (has_ending new.output) h still);
  stays_done = done;
}

pub item_counts : {T : Type 0} (old new : MergeNode T) (i : ℕ) (x : T) (q p : QueuedInput T) → IsPick old.output old.inputs.items i (Next x) q p → new.inputs.items ≡ slice_set old.inputs.items i p → new.output ≡ Waiting (Next x) → CountsStep merge_counted merge_ended merge_done old new
item_counts old new i x q p k ins out =
    let here_still : is_gone p ≡ false = ap is_gone k.state ∙ not_gone_by q.tail q.queue.items (Next x) k.signal in
    going_on old new i (Next x) q p k ins (ap is_over out) (not_gone_at old.inputs.items i p k.there here_still)

pub completion_counts : {T : Type 0} (old new : MergeNode T) (i : ℕ) (q p : QueuedInput T) → IsPick old.output old.inputs.items i Complete q p → new.inputs.items ≡ slice_set old.inputs.items i p → new.output ≡ old.output → are_gone (slice_set old.inputs.items i p) ≡ false → CountsStep merge_counted merge_ended merge_done old new
completion_counts old new i q p k ins out left = going_on old new i Complete q p k ins (ap is_over (out ∙ k.empty)) left

pub last_counts : {T : Type 0} (old new : MergeNode T) (i : ℕ) (q p : QueuedInput T) → IsPick old.output old.inputs.items i Complete q p → new.inputs.items ≡ slice_set old.inputs.items i p → new.output ≡ Waiting Complete → CountsStep merge_counted merge_ended merge_done old new
last_counts old new i q p k ins out = ending old new k.empty (ap has_ending out) (λ j d. rw ins (done_kept old.inputs.items i j Complete q p k.was k.state d))

pub failure_counts : {T : Type 0} (old new : MergeNode T) (i : ℕ) (c : Cause) (q p : QueuedInput T) → IsPick old.output old.inputs.items i (Error c) q p → new.inputs.items ≡ [] → new.output ≡ Waiting (Error c) → CountsStep merge_counted merge_ended merge_done old new
failure_counts old new i c q p k ins out = ending old new k.empty (ap has_ending out) (λ j d. rw ins refl)

-- ---- an item of an input is picked, and goes out at once

-- the item x was picked of input i, which leaves the node going on, and then it went out
abbrev pub IsPickedOut : {T : Type 0} → Meaning T → MergeNode T → ℕ → ℕ → ℕ → T → MergeNode T → Type 0
IsPickedOut {T} m old i asked sent x new =
    (picked : MergeNode T)
    × IsPickDone (merge_comes_out m) merge_picks merge_recording merge_recorded merge_counted merge_ended merge_done old i asked sent picked
    × (merge_ended picked ≡ false)
    × IsItemOut (merge_comes_out m) (merge_waiting m) merge_popped merge_recorded merge_counted merge_ended merge_done picked x new

pub picked_out : {T : Type 0} (m : Meaning T) (old new : MergeNode T) (i asked sent : ℕ) (x : T) (q p : QueuedInput T) → merge_picks old i asked sent ≡ true → IsPick old.output old.inputs.items i (Next x) q p → new.inputs.items ≡ slice_set old.inputs.items i p → new.output ≡ old.output → written new.choices ≡ written old.choices ++ i ∷ [] →
    IsPickedOut m old i asked sent x new
picked_out {T} m old new i asked sent x q p picks k ins out notes =
    let mid : MergeNode T = record new { output = Waiting (Next x) } in
    let left : new.output ≡ Empty = out ∙ k.empty in (
      mid,
      record {
        enabled = picks;
        value = λ inc further. rw ins (item_picked old.output (Waiting (Next x)) old.inputs.items i x q p k refl inc further);
        notes = ap Picks notes;
        composes = picks_compose (written old.choices) (i ∷ []);
        counts = item_counts old mid i x q p k ins refl;
      },
      refl,
      record {
        waited = refl;
        popped_out = ((refl, left), refl, refl);
        value = λ inc further. item_leaves (Waiting (Next x)) new.output x (λ cs. merge_inputs cs (inputs_left 0 new.inputs.items (inc.first ∷ inc.others))) (λ cs. merge_inputs cs []) refl left further;
        notes = refl;
        counts = (ap has_ending left, (λ taken n h. record { not_over = ap is_over left; some_left = h.some_left; few = h.few; counts = h.counts }), λ j d. d);
      },
    )

pub item_gone : {T : Type 0} (m : Meaning T) (old new : MergeNode T) (i asked sent : ℕ) (x : T) (q p : QueuedInput T) → merge_picks old i asked sent ≡ true → IsPick old.output old.inputs.items i (Next x) q p → new.inputs.items ≡ slice_set old.inputs.items i p → new.output ≡ old.output → written new.choices ≡ written old.choices ++ i ∷ [] →
    IsSteppedOut (merge_comes_out m) (merge_waiting m) merge_picks (λ n a s. false) (λ n a s k. ⊥) merge_popped merge_recording merge_recorded merge_counted merge_ended merge_done old asked sent (Some x) new
item_gone m old new i asked sent x q p picks k ins out notes = let g = picked_out m old new i asked sent x q p picks k ins out notes in (g.0, inl (i, g.1), g.3)
