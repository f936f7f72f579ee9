-- An item of an input, or of a lane, is picked, and goes out at once.
use Rattle.std.proofs.Common.{◌≡◌, ℕ, true, false, List, [], ◌∷◌, ◌++◌, slice_set, Some, None, inl, refl, ap, sym, ◌∙◌, subst}
use Rattle.rsx_sources.specs.Prelude.{Picks, Next, Meaning, IsSteppedOut}
use Rattle.rsx_queued.proofs.Merged.{picks_compose}
use Rattle.rsx_queued.proofs.Outputs.{item_leaves}
use Rattle.rsx_queued.specs.declared.input.QueuedInput.{QueuedInput}
use Rattle.rsx_queued.specs.declared.output.Output.TheVariants.{Empty, Waiting}
use Rattle.rsx_queued.specs.Prelude.{has_ending, inputs_left, is_over}
use Rattle.rsx_values.specs.Delayed.{merge_delayed_inputs}
use Rattle.rsx_values.specs.Pick.{InputLeft}
use Rattle.rsx_values.specs.Record.{written}
use Rattle.rsx_merging.proofs.Chosen.{IsPick}
use Rattle.rsx_merging.proofs.Picked.{IsPick as IsLanePick, with_pick}
use Rattle.rsx_merging.specs.FlatMap.{flat_picks, left_of}
use Rattle.rsx_delayed.proofs.FlatPicked.{item_counts as lane_counts, item_picked as lane_picked}
use Rattle.rsx_delayed.proofs.Picked.{item_counts, item_picked}
use Rattle.rsx_delayed.specs.FlatMapDelay.{flat_delay_comes_out, flat_delay_counted, flat_delay_done, flat_delay_ended, flat_delay_picks, flat_delay_popped, flat_delay_recorded, flat_delay_recording, flat_delay_waiting}
use Rattle.rsx_delayed.specs.MergeDelay.{delayed_comes_out, delayed_counted, delayed_done, delayed_ended, delayed_picks, delayed_popped, delayed_recorded, delayed_recording, delayed_waiting}
use Rattle.rsx_delayed.specs.declared.flat_map_delay_node.FlatMapDelayNode.{FlatMapDelayNode}
use Rattle.rsx_delayed.specs.declared.merge_delay_node.MergeDelayNode.{MergeDelayNode}

pub item_gone : {T : Type 0} (m : Meaning T) (old new : MergeDelayNode T) (i asked sent : ℕ) (x : T) (q p : QueuedInput T) → delayed_picks old i asked sent ≡ true → IsPick old.output old.inputs.items i (Next x) q p → new.inputs.items ≡ slice_set old.inputs.items i p → new.output ≡ old.output → new.kept ≡ old.kept →
    written new.choices ≡ written old.choices ++ i ∷ [] → IsSteppedOut (delayed_comes_out m) (delayed_waiting m) delayed_picks (λ n a s. false) (λ n a s k. ⊥) delayed_popped delayed_recording delayed_recorded delayed_counted delayed_ended delayed_done old asked sent (Some x) new
item_gone {T} m old new i asked sent x q p picks k ins out kept notes =
    let mid : MergeDelayNode T = record new { output = Waiting (Next x) } in
    let left : new.output ≡ Empty = out ∙ k.empty in (
      mid,
      inl (
        i,
        record {
          enabled = picks;
          value = λ inc further. rw (ins, kept) (item_picked old.output (Waiting (Next x)) old.kept old.inputs.items i x q p k refl inc further);
          notes = ap Picks notes;
          composes = picks_compose (written old.choices) (i ∷ []);
          counts = item_counts old mid i x q p k ins refl;
        },
      ),
      record {
        waited = refl;
        popped_out = ((refl, left), refl, refl, refl);
        value = λ inc further. item_leaves (Waiting (Next x)) new.output x (λ cs. merge_delayed_inputs new.kept cs (inputs_left 0 new.inputs.items (inc.first ∷ inc.others))) (λ cs. merge_delayed_inputs None cs []) refl left further;
        notes = refl;
        counts = (ap has_ending left, (λ taken n h. record { not_over = ap is_over left; some_left = h.some_left; few = h.few; counts = h.counts }), λ j d. d);
      },
    )

pub lane_gone : {T : Type 0} (m : Meaning T) (old new : FlatMapDelayNode T) (i asked sent : ℕ) (x : T) (js : List (InputLeft T)) → flat_picks old.flat i asked sent ≡ true → IsLanePick old.flat i (Next x) js → new ≡ record old { flat = with_pick old.flat js old.flat.output new.flat.choices } →
    written new.flat.choices ≡ written old.flat.choices ++ i ∷ [] → IsSteppedOut (flat_delay_comes_out m) (flat_delay_waiting m) flat_delay_picks (λ n a s. false) (λ n a s k. ⊥) flat_delay_popped flat_delay_recording flat_delay_recorded flat_delay_counted flat_delay_ended flat_delay_done old asked sent (Some x) new
lane_gone {T} m old new i asked sent x js picks p is notes =
    let mid : FlatMapDelayNode T = record old { flat = with_pick old.flat js (Waiting (Next x)) new.flat.choices } in
    let P : FlatMapDelayNode T → Type 0 = λ n. IsSteppedOut (flat_delay_comes_out m) (flat_delay_waiting m) flat_delay_picks (λ n a s. false) (λ n a s k. ⊥) flat_delay_popped flat_delay_recording flat_delay_recorded flat_delay_counted flat_delay_ended flat_delay_done old asked sent (Some x) n in
    subst P (sym is) (
      mid,
      inl (
        i,
        record {
          enabled = picks;
          value = λ inc further. lane_picked m old i x js (Waiting (Next x)) new.flat.choices p refl inc further;
          notes = ap Picks notes;
          composes = picks_compose (written old.flat.choices) (i ∷ []);
          counts = lane_counts old i x js (Waiting (Next x)) new.flat.choices p refl;
        },
      ),
      record {
        waited = refl;
        popped_out = (((refl, p.empty), refl), refl);
        value = λ inc further. item_leaves (Waiting (Next x)) old.flat.output x (λ cs. merge_delayed_inputs old.kept cs (left_of m mid.flat inc.first)) (λ cs. merge_delayed_inputs None cs []) refl p.empty further;
        notes = refl;
        counts = (ap has_ending p.empty, (λ taken n h. record { not_over = ap is_over p.empty; some_left = h.some_left; whole = h.whole; counts = h.counts }), λ j d. d);
      },
    )
