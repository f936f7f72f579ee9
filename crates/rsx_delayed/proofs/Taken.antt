-- A signal comes in at one of the inputs: the value, and the counts.
use Rattle.std.proofs.Common.{◌≡◌, ℕ, List, slice_set, Option, ap, ◌∙◌}
use Rattle.std.proofs.lemmas.List.{length-set}
use Rattle.rsx_sources.specs.Prelude.{Note, Cause, Signal, Stream, signal_then, CountsIn, Incoming, in_front}
use Rattle.rsx_queued.specs.declared.input.QueuedInput.{QueuedInput}
use Rattle.rsx_queued.specs.declared.output.Output.{Output}
use Rattle.rsx_queued.specs.Prelude.{still, has_ending}
use Rattle.rsx_queued.proofs.Changed.{IsPut, put_left, put_counted, put_not_gone, put_done, put_ends}
use Rattle.rsx_delayed.specs.declared.merge_delay_node.MergeDelayNode.{MergeDelayNode}
use Rattle.rsx_delayed.specs.MergeDelay.{delayed_behind, delayed_of, delayed_counted, delayed_ended, delayed_done}

-- the input at i was `old` and is `new`
pub took : {T : Type 0} (out : Output T) (kept : Option Cause) (qs : List (QueuedInput T)) (i : ℕ) (old new : QueuedInput T) (s : Signal T) → IsPut qs i s old new → ((v : Stream T) → still new v ≡ still old (signal_then s v)) →
    (inc : Incoming T) (further : Note) → delayed_of out kept (slice_set qs i new) inc further ≡ delayed_of out kept qs (in_front i s inc) further
took out kept qs i old new s p value inc further = ap (λ is. delayed_behind out kept is further) (put_left qs i s old new p value inc)

pub counts_in : {T : Type 0} (old new : MergeDelayNode T) (i : ℕ) (a b : QueuedInput T) (s : Signal T) → IsPut old.inputs.items i s a b → new.output ≡ old.output → new.inputs.items ≡ slice_set old.inputs.items i b → CountsIn delayed_counted delayed_ended delayed_done old i s new
counts_in old new i a b s p out ins =
    record {
      stays_ended = λ e. ap has_ending out ∙ e;
      counts = λ going taken sent h. rw (out, ins) (record {
        not_over = h.not_over;
        some_left = put_not_gone old.inputs.items i s a b p;
        few = let few = h.few in rw length-set few;
        counts = put_counted old.inputs.items i s a b taken p h.counts;
      });
      stays_done = λ j d. rw ins (put_done old.inputs.items i s a b p j d);
      is_done = λ going e. rw ins (put_ends old.inputs.items i s a b p e);
    }
