-- An input is picked: the value under the choice, and the counts.
use Rattle.std.proofs.lemmas.List.{length-set}
use Rattle.std.proofs.Common.{◌≡◌, ℕ, zero, suc, ◌+◌, ◌<◌, Bool, true, false, List, [], ◌∷◌, length, slice_index_or, slice_set, slice_get, Option, Some, None, refl, ap, sym, ◌∙◌, subst, arith}
use Rattle.rsx_sources.specs.Prelude.{Note, Nothing, Picks, Ended, Cause, Signal, Next, Complete, Error, note_then, Stream, CountsStep, Incoming}
use Rattle.rsx_queued.specs.declared.tail.Tail.{Tail}
use Rattle.rsx_queued.specs.declared.tail.Tail.TheVariants.{Open, Completion, Failure, Taken}
use Rattle.rsx_queued.specs.declared.input.QueuedInput.{QueuedInput}
use Rattle.rsx_queued.specs.declared.output.Output.{Output}
use Rattle.rsx_queued.specs.declared.output.Output.TheVariants.{Empty, Waiting}
use Rattle.rsx_queued.specs.Prelude.{AreCounted, Gives, IsCounted, are_gone, done_at, first_held, has_ending, head_of, inputs_left, is_ended, is_gone, is_over, is_taken, next_signal, output_then, still, tail_of, unless_taken, without}
use Rattle.rsx_queued.proofs.Changed.{done_stays, not_gone_at}
use Rattle.rsx_queued.proofs.Counts.{counted_without}
use Rattle.rsx_queued.proofs.Outputs.{not_ended}
use Rattle.rsx_queued.proofs.Picks.{unequal, next_first, next_beside, none_left}
use Rattle.rsx_values.specs.Pick.{InputLeft, next_of}
use Rattle.rsx_merging.proofs.Chosen.{IsPick}
use Rattle.rsx_delayed.proofs.Choices.{delayed_step}
use Rattle.rsx_values.specs.Delayed.{first_cause, merge_delayed_inputs}
use Rattle.rsx_delayed.specs.declared.merge_delay_node.MergeDelayNode.{MergeDelayNode}
use Rattle.rsx_delayed.specs.MergeDelay.{delayed_behind, delayed_counted, delayed_done, delayed_ended, delayed_of, ending_out, last_signal}

-- ---- the choice finds its input

next_at : {T : Type 0} (c k : ℕ) (qs : List (QueuedInput T)) (i : ℕ) (q : QueuedInput T) (s : Signal T) (vs : List (Stream T)) (d : QueuedInput T) → c ≡ k + i → i < length qs → Gives (slice_index_or qs i d) s q →
    next_of c (inputs_left k qs vs) ≡ Some (s, inputs_left k (slice_set qs i q) vs)
next_at c k [] i q s vs d e lt g = absurd (omega arith)
next_at {T = T} c k (p ∷ qs) zero q s vs d e lt g =
    let same : c ≡ k = omega arith in
    rw same (next_first k (still p (head_of vs)) (still q (head_of vs)) (inputs_left (suc k) qs (tail_of vs)) s (g (head_of vs)))
next_at c k (p ∷ qs) (suc i) q s vs d e lt g =
    next_beside c k (still p (head_of vs)) (inputs_left (suc k) qs (tail_of vs)) (inputs_left (suc k) (slice_set qs i q) (tail_of vs)) s (unequal c k i e) (next_at c (suc k) qs i q s (tail_of vs) d (omega arith) (omega arith) g)

taken_next : {T : Type 0} (out : Output T) (qs : List (QueuedInput T)) (i : ℕ) (s : Signal T) (old new : QueuedInput T) → IsPick out qs i s old new → (vs : List (Stream T)) → next_of i (inputs_left 0 qs vs) ≡ Some (s, inputs_left 0 (slice_set qs i new) vs)
taken_next {T} out qs i s old new p vs =
    let P : QueuedInput T → Type 0 = λ q. Gives q s new in
    next_at i 0 qs i new s vs old (omega arith) p.there (subst P p.was p.gives)

-- ---- the value

-- an item is put out
pub item_chosen : {T : Type 0} (out out' : Output T) (kept : Option Cause) (is js : List (InputLeft T)) (i : ℕ) (x : T) → out ≡ Empty → out' ≡ Waiting (Next x) → next_of i is ≡ Some (Next x, js) →
    (further : Note) → delayed_behind out' kept js further ≡ delayed_behind out kept is (note_then (Picks (i ∷ [])) further)
item_chosen out out' kept is js i x empty put next Nothing = refl
item_chosen out out' kept is js i x empty put next (Ended o) = refl
item_chosen out out' kept is js i x empty put next (Picks cs) = rw (put, empty) (sym (delayed_step i cs is js (Next x) kept next))

pub item_picked : {T : Type 0} (out out' : Output T) (kept : Option Cause) (qs : List (QueuedInput T)) (i : ℕ) (x : T) (old new : QueuedInput T) → IsPick out qs i (Next x) old new → out' ≡ Waiting (Next x) →
    (inc : Incoming T) (further : Note) → delayed_of out' kept (slice_set qs i new) inc further ≡ delayed_of out kept qs inc (note_then (Picks (i ∷ [])) further)
item_picked out out' kept qs i x old new p put inc = item_chosen out out' kept (inputs_left 0 qs (inc.first ∷ inc.others)) (inputs_left 0 (slice_set qs i new) (inc.first ∷ inc.others)) i x p.empty put (taken_next out qs i (Next x) old new p (inc.first ∷ inc.others))

-- the ending is all that comes where no input is left
last_then : {T : Type 0} (kept : Option Cause) (cs : List ℕ) (o : Option (Stream T)) → output_then (Waiting (last_signal kept)) o (merge_delayed_inputs None cs []) ≡ merge_delayed_inputs kept cs []
last_then None [] o = refl
last_then None (c ∷ cs) o = refl
last_then (Some f) [] o = refl
last_then (Some f) (c ∷ cs) o = refl

ending_then : {T : Type 0} (b : Bool) (kept : Option Cause) (cs : List ℕ) (js : List (InputLeft T)) → (b ≡ true → js ≡ []) → output_then (ending_out b kept) (merge_delayed_inputs kept cs js) (merge_delayed_inputs None cs []) ≡ merge_delayed_inputs kept cs js
ending_then false kept cs js none = refl
ending_then true kept cs js none = last_then kept cs (merge_delayed_inputs kept cs js) ∙ ap (merge_delayed_inputs kept cs) (sym (none refl))

-- the ending of an input puts nothing out, or the ending where it was the last; where it is the first failure, it is kept
pub ending_chosen : {T : Type 0} (out out' : Output T) (kept now : Option Cause) (is js : List (InputLeft T)) (i : ℕ) (b : Bool) → out ≡ Empty → out' ≡ ending_out b now → (b ≡ true → js ≡ []) →
    ((cs : List ℕ) → merge_delayed_inputs kept (i ∷ cs) is ≡ merge_delayed_inputs now cs js) →
    (further : Note) → delayed_behind out' now js further ≡ delayed_behind out kept is (note_then (Picks (i ∷ [])) further)
ending_chosen out out' kept now is js i b empty put none step Nothing = refl
ending_chosen out out' kept now is js i b empty put none step (Ended o) = refl
ending_chosen out out' kept now is js i b empty put none step (Picks cs) = rw (put, empty) (ending_then b now cs js none ∙ sym (step cs))

pub completion_picked : {T : Type 0} (out out' : Output T) (kept now : Option Cause) (qs qs' : List (QueuedInput T)) (i : ℕ) (old new : QueuedInput T) → IsPick out qs i Complete old new → qs' ≡ slice_set qs i new → now ≡ kept → out' ≡ ending_out (are_gone (slice_set qs i new)) kept →
    (inc : Incoming T) (further : Note) → delayed_of out' now qs' inc further ≡ delayed_of out kept qs inc (note_then (Picks (i ∷ [])) further)
completion_picked out out' kept now qs qs' i old new p ins same put inc further =
    let vs = inc.first ∷ inc.others in
    rw (ins, same) (ending_chosen out out' kept kept (inputs_left 0 qs vs) (inputs_left 0 (slice_set qs i new) vs) i (are_gone (slice_set qs i new)) p.empty put (none_left 0 (slice_set qs i new) vs)
    (λ cs. delayed_step i cs (inputs_left 0 qs vs) (inputs_left 0 (slice_set qs i new) vs) Complete kept (taken_next out qs i Complete old new p vs)) further)

pub failure_picked : {T : Type 0} (out out' : Output T) (kept first now : Option Cause) (qs qs' : List (QueuedInput T)) (i : ℕ) (c : Cause) (old new : QueuedInput T) → IsPick out qs i (Error c) old new → qs' ≡ slice_set qs i new → first ≡ first_cause kept c → now ≡ first → out' ≡ ending_out (are_gone (slice_set qs i new)) first →
    (inc : Incoming T) (further : Note) → delayed_of out' now qs' inc further ≡ delayed_of out kept qs inc (note_then (Picks (i ∷ [])) further)
failure_picked out out' kept first now qs qs' i c old new p ins is same put inc further =
    let vs = inc.first ∷ inc.others in
    rw (ins, same, is) (ending_chosen out out' kept (first_cause kept c) (inputs_left 0 qs vs) (inputs_left 0 (slice_set qs i new) vs) i (are_gone (slice_set qs i new)) p.empty (put ∙ ap (ending_out (are_gone (slice_set qs i new))) is) (none_left 0 (slice_set qs i new) vs)
    (λ cs. delayed_step i cs (inputs_left 0 qs vs) (inputs_left 0 (slice_set qs i new) vs) (Error c) kept (taken_next out qs i (Error c) old new p vs)) further)

-- ---- the counts

take_counted : {T : Type 0} (qs : List (QueuedInput T)) (i : ℕ) (q : QueuedInput T) (s : Signal T) (cs : List ℕ) → q ≡ slice_index_or qs i q → Some s ≡ next_signal q → AreCounted qs cs → AreCounted (slice_set qs i (without q (Some s))) cs
take_counted [] i q s [] at is h = tt
take_counted [] i q s (c ∷ cs) at is h = absurd h
take_counted (p ∷ qs) i q s [] at is h = absurd h
take_counted (p ∷ qs) zero q s (c ∷ cs) at is h = (subst (λ o. IsCounted (without q o) c) (sym is) (counted_without q c (subst (λ z. IsCounted z c) (sym at) h.0)), h.1)
take_counted (p ∷ qs) (suc i) q s (c ∷ cs) at is h = (h.0, take_counted qs i q s cs at is h.1)

ended_without : {T : Type 0} (q : QueuedInput T) (s : Signal T) → is_ended q.tail ≡ true → is_ended (without q (Some s)).tail ≡ true
ended_without q (Next x) e = e
ended_without q Complete e = refl
ended_without q (Error c) e = refl

not_gone_by : {T : Type 0} (t : Tail) (xs : List T) (s : Signal T) → Some s ≡ unless_taken t (first_held xs t) → is_taken t ≡ false
not_gone_by Open xs s e = refl
not_gone_by Completion xs s e = refl
not_gone_by (Failure c) xs s e = refl
not_gone_by Taken xs s e = cc

done_kept : {T : Type 0} (qs : List (QueuedInput T)) (i j : ℕ) (s : Signal T) (q p : QueuedInput T) → q ≡ slice_index_or qs i q → p ≡ without q (Some s) → done_at (slice_get qs j) ≡ true → done_at (slice_get (slice_set qs i p) j) ≡ true
done_kept qs i j s q p at is d = done_stays qs i j q p at (λ e. ap (λ z. is_ended z.tail) is ∙ ended_without q s e) d

-- the node goes on
going_on : {T : Type 0} (old new : MergeDelayNode T) (i : ℕ) (s : Signal T) (q p : QueuedInput T) → IsPick old.output old.inputs.items i s q p → new.inputs.items ≡ slice_set old.inputs.items i p → is_over new.output ≡ false → are_gone (slice_set old.inputs.items i p) ≡ false →
    CountsStep delayed_counted delayed_ended delayed_done old new
going_on {T} old new i s q p k ins going left =
    record {
      stays_ended = λ e. absurd (not_ended old.output k.empty e);
      counts = λ still taken sent h. rw ins (record {
        not_over = going;
        some_left = left;
        few = let few = h.few in rw length-set few;
        counts = rw k.state (take_counted old.inputs.items i q s taken k.was k.signal h.counts);
      });
      stays_done = λ j d. rw ins (done_kept old.inputs.items i j s q p k.was k.state d);
    }

both : (b : Bool) → b ≡ true → b ≡ false → ⊥
both b x y = cc

-- it ends
ending : {T : Type 0} (old new : MergeDelayNode T) (i : ℕ) (s : Signal T) (q p : QueuedInput T) → IsPick old.output old.inputs.items i s q p → new.inputs.items ≡ slice_set old.inputs.items i p → has_ending new.output ≡ true →
    CountsStep delayed_counted delayed_ended delayed_done old new
ending old new i s q p k ins h = record {
  stays_ended = λ x. h;
  counts = λ still. absurd (both (has_ending new.output) h still);
  stays_done = λ j d. rw ins (done_kept old.inputs.items i j s q p k.was k.state d);
}

pub item_counts : {T : Type 0} (old new : MergeDelayNode T) (i : ℕ) (x : T) (q p : QueuedInput T) → IsPick old.output old.inputs.items i (Next x) q p → new.inputs.items ≡ slice_set old.inputs.items i p → new.output ≡ Waiting (Next x) → CountsStep delayed_counted delayed_ended delayed_done old new
item_counts old new i x q p k ins out =
    let here_still : is_gone p ≡ false = ap is_gone k.state ∙ not_gone_by q.tail q.queue.items (Next x) k.signal in
    going_on old new i (Next x) q p k ins (ap is_over out) (not_gone_at old.inputs.items i p k.there here_still)

pub last_ends : (T : Type 0) (kept : Option Cause) → has_ending (Waiting (last_signal {T = T} kept)) ≡ true
last_ends T None = refl
last_ends T (Some c) = refl

pub ending_counts : {T : Type 0} (old new : MergeDelayNode T) (i : ℕ) (s : Signal T) (q p : QueuedInput T) (now : Option Cause) → IsPick old.output old.inputs.items i s q p → new.inputs.items ≡ slice_set old.inputs.items i p →
    new.output ≡ ending_out (are_gone (slice_set old.inputs.items i p)) now → CountsStep delayed_counted delayed_ended delayed_done old new
ending_counts {T} old new i s q p now k ins out = by_gone (are_gone (slice_set old.inputs.items i p)) refl out
  where
    by_gone : (b : Bool) → are_gone (slice_set old.inputs.items i p) ≡ b → new.output ≡ ending_out b now → CountsStep delayed_counted delayed_ended delayed_done old new
    by_gone false left put = going_on old new i s q p k ins (ap is_over put) left
    by_gone true gone put = ending old new i s q p k ins (ap has_ending put ∙ last_ends T now)
