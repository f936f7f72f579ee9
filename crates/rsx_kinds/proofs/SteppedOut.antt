-- A node of any kind makes a step and lets the item go as its kind does.
use Rattle.std.proofs.Common.{ap, ℕ, false, Option, Some, None, inl, inr}
use Rattle.rsx_sources.specs.Prelude.{Meaning, IsStepDone, IsSteppedOut}
use Rattle.rsx_kinds.specs.Prelude.{FlatMapDelayNode, FlatMapNode, GroupByNode, IsGoing, IsPoppedGroup, SeveralNode, any_comes_out, any_counted, any_done, any_ended, any_popped, any_recorded, any_waiting, flat_comes_out, flat_delay_comes_out, flat_delay_counted, flat_delay_done, flat_delay_ended, flat_delay_popped, flat_delay_recorded, flat_delay_waiting, flat_done, flat_ended, flat_popped, flat_recorded, flat_waiting, group_comes_out, group_counted, group_done, group_ended, group_recorded, group_waiting, several_comes_out, several_counted, several_done, several_ended, several_popped, several_recorded, several_waiting}
use Rattle.rsx_kinds.specs.Any.{any_picks, any_recording, any_rowed, any_rows}
use Rattle.rsx_kinds.specs.Several.{several_picks, several_recording, several_rowed, several_rows}
use Rattle.rsx_kinds.specs.declared.any_node.AnyNode.TheVariants.{Several, FlatMap, FlatMapDelay, GroupBy}
use Rattle.rsx_kinds.specs.declared.several_node.SeveralNode.TheVariants.{Merge, MergeDelay, Zip, Latest}
use Rattle.rsx_merging.specs.declared.merge_node.MergeNode.{MergeNode}
use Rattle.rsx_merging.specs.Merge.{merge_comes_out, merge_waiting, merge_picks, merge_recording, merge_popped, merge_recorded, merge_ended, merge_done, merge_counted}
use Rattle.rsx_merging.specs.FlatMap.{flat_picks, flat_recording}
use Rattle.rsx_delayed.specs.declared.merge_delay_node.MergeDelayNode.{MergeDelayNode}
use Rattle.rsx_delayed.specs.MergeDelay.{delayed_comes_out, delayed_waiting, delayed_picks, delayed_recording, delayed_popped, delayed_recorded, delayed_ended, delayed_done, delayed_counted}
use Rattle.rsx_delayed.specs.FlatMapDelay.{flat_delay_picks, flat_delay_recording}
use Rattle.rsx_grouping.specs.GroupBy.{group_picks, group_recording}
use Rattle.rsx_combining.specs.Zip.{ZipState, zip_comes_out, zip_waiting, zip_picks, zip_rows, IsZipRow, zip_recording, zip_popped, zip_recorded, zip_ended, zip_done, IsZipCounted}
use Rattle.rsx_combining.specs.Latest.{LatestState, latest_comes_out, latest_waiting, latest_picks, latest_recording, latest_popped, latest_recorded, latest_ended, latest_done, IsLatestCounted}
use Rattle.rsx_kinds.proofs.Dispatch.{item_out_several, item_out_flat_map, item_out_flat_map_delay, item_out_group_by, stepped_several, stepped_flat_map, stepped_flat_map_delay, stepped_group_by}
use Rattle.rsx_kinds.proofs.SeveralDispatch.{item_out_merge, item_out_merge_delay, item_out_zip, item_out_latest, stepped_merge, stepped_merge_delay, stepped_zip, stepped_latest}

step_merge : {T : Type 0} (m : Meaning T) (old mid : MergeNode T) (asked sent : ℕ) → IsStepDone (merge_comes_out m) merge_picks (λ n a s. false) (λ n a s k. ⊥) merge_recording merge_recorded merge_counted merge_ended merge_done old asked sent mid →
    IsStepDone (several_comes_out m) several_picks several_rows several_rowed several_recording several_recorded several_counted several_ended several_done (Merge old) asked sent (Merge mid)
step_merge m old mid asked sent (inl p) =
    let h = p.1 in
    inl (p.0, record { enabled = h.enabled; value = h.value; notes = h.notes; composes = h.composes; counts = stepped_merge old mid h.counts })
step_merge m old mid asked sent (inr h) = absurd h.row

pub stepped_out_merge : {T : Type 0} (m : Meaning T) (old new : MergeNode T) (asked sent : ℕ) (o : Option T) → IsSteppedOut (merge_comes_out m) (merge_waiting m) merge_picks (λ n a s. false) (λ n a s k. ⊥) merge_popped merge_recording merge_recorded merge_counted merge_ended merge_done old asked sent o new →
    IsSteppedOut (several_comes_out m) (several_waiting m) several_picks several_rows several_rowed several_popped several_recording several_recorded several_counted several_ended several_done (Merge old) asked sent o (Merge new)
stepped_out_merge m old new asked sent (Some x) h = (Merge h.0, step_merge m old h.0 asked sent h.1, item_out_merge m h.0 new (Some x) h.2)
stepped_out_merge m old new asked sent None h = ap Merge h

step_merge_delay : {T : Type 0} (m : Meaning T) (old mid : MergeDelayNode T) (asked sent : ℕ) → IsStepDone (delayed_comes_out m) delayed_picks (λ n a s. false) (λ n a s k. ⊥) delayed_recording delayed_recorded delayed_counted delayed_ended delayed_done old asked sent mid →
    IsStepDone (several_comes_out m) several_picks several_rows several_rowed several_recording several_recorded several_counted several_ended several_done (MergeDelay old) asked sent (MergeDelay mid)
step_merge_delay m old mid asked sent (inl p) =
    let h = p.1 in
    inl (p.0, record { enabled = h.enabled; value = h.value; notes = h.notes; composes = h.composes; counts = stepped_merge_delay old mid h.counts })
step_merge_delay m old mid asked sent (inr h) = absurd h.row

pub stepped_out_merge_delay : {T : Type 0} (m : Meaning T) (old new : MergeDelayNode T) (asked sent : ℕ) (o : Option T) → IsSteppedOut (delayed_comes_out m) (delayed_waiting m) delayed_picks (λ n a s. false) (λ n a s k. ⊥) delayed_popped delayed_recording delayed_recorded delayed_counted delayed_ended delayed_done old asked sent o new →
    IsSteppedOut (several_comes_out m) (several_waiting m) several_picks several_rows several_rowed several_popped several_recording several_recorded several_counted several_ended several_done (MergeDelay old) asked sent o (MergeDelay new)
stepped_out_merge_delay m old new asked sent (Some x) h = (MergeDelay h.0, step_merge_delay m old h.0 asked sent h.1, item_out_merge_delay m h.0 new (Some x) h.2)
stepped_out_merge_delay m old new asked sent None h = ap MergeDelay h

step_zip : {T : Type 0} (m : Meaning T) (old mid : ZipState T) (asked sent : ℕ) → IsStepDone (zip_comes_out m) zip_picks zip_rows IsZipRow zip_recording zip_recorded IsZipCounted zip_ended zip_done old asked sent mid →
    IsStepDone (several_comes_out m) several_picks several_rows several_rowed several_recording several_recorded several_counted several_ended several_done (Zip old) asked sent (Zip mid)
step_zip m old mid asked sent (inl p) =
    let h = p.1 in
    inl (p.0, record { enabled = h.enabled; value = h.value; notes = h.notes; composes = h.composes; counts = stepped_zip old mid h.counts })
step_zip m old mid asked sent (inr h) = inr (record { enabled = h.enabled; row = h.row; value = h.value; notes = h.notes; counts = stepped_zip old mid h.counts })

pub stepped_out_zip : {T : Type 0} (m : Meaning T) (old new : ZipState T) (asked sent : ℕ) (o : Option T) → IsSteppedOut (zip_comes_out m) (zip_waiting m) zip_picks zip_rows IsZipRow zip_popped zip_recording zip_recorded IsZipCounted zip_ended zip_done old asked sent o new →
    IsSteppedOut (several_comes_out m) (several_waiting m) several_picks several_rows several_rowed several_popped several_recording several_recorded several_counted several_ended several_done (Zip old) asked sent o (Zip new)
stepped_out_zip m old new asked sent (Some x) h = (Zip h.0, step_zip m old h.0 asked sent h.1, item_out_zip m h.0 new (Some x) h.2)
stepped_out_zip m old new asked sent None h = ap Zip h

step_latest : {T : Type 0} (m : Meaning T) (old mid : LatestState T) (asked sent : ℕ) → IsStepDone (latest_comes_out m) latest_picks (λ n a s. false) (λ n a s k. ⊥) latest_recording latest_recorded IsLatestCounted latest_ended latest_done old asked sent mid →
    IsStepDone (several_comes_out m) several_picks several_rows several_rowed several_recording several_recorded several_counted several_ended several_done (Latest old) asked sent (Latest mid)
step_latest m old mid asked sent (inl p) =
    let h = p.1 in
    inl (p.0, record { enabled = h.enabled; value = h.value; notes = h.notes; composes = h.composes; counts = stepped_latest old mid h.counts })
step_latest m old mid asked sent (inr h) = absurd h.row

pub stepped_out_latest : {T : Type 0} (m : Meaning T) (old new : LatestState T) (asked sent : ℕ) (o : Option T) → IsSteppedOut (latest_comes_out m) (latest_waiting m) latest_picks (λ n a s. false) (λ n a s k. ⊥) latest_popped latest_recording latest_recorded IsLatestCounted latest_ended latest_done old asked sent o new →
    IsSteppedOut (several_comes_out m) (several_waiting m) several_picks several_rows several_rowed several_popped several_recording several_recorded several_counted several_ended several_done (Latest old) asked sent o (Latest new)
stepped_out_latest m old new asked sent (Some x) h = (Latest h.0, step_latest m old h.0 asked sent h.1, item_out_latest m h.0 new (Some x) h.2)
stepped_out_latest m old new asked sent None h = ap Latest h

step_several : {T : Type 0} (m : Meaning T) (old mid : SeveralNode T) (asked sent : ℕ) → IsStepDone (several_comes_out m) several_picks several_rows several_rowed several_recording several_recorded several_counted several_ended several_done old asked sent mid →
    IsStepDone (any_comes_out m) any_picks any_rows any_rowed any_recording any_recorded any_counted any_ended any_done (Several old) asked sent (Several mid)
step_several m old mid asked sent (inl p) =
    let h = p.1 in
    inl (p.0, record { enabled = h.enabled; value = h.value; notes = h.notes; composes = h.composes; counts = stepped_several old mid h.counts })
step_several m old mid asked sent (inr h) = inr (record { enabled = h.enabled; row = h.row; value = h.value; notes = h.notes; counts = stepped_several old mid h.counts })

pub stepped_out_several : {T : Type 0} (m : Meaning T) (old new : SeveralNode T) (asked sent : ℕ) (o : Option T) → IsSteppedOut (several_comes_out m) (several_waiting m) several_picks several_rows several_rowed several_popped several_recording several_recorded several_counted several_ended several_done old asked sent o new →
    IsSteppedOut (any_comes_out m) (any_waiting m) any_picks any_rows any_rowed any_popped any_recording any_recorded any_counted any_ended any_done (Several old) asked sent o (Several new)
stepped_out_several m old new asked sent (Some x) h = (Several h.0, step_several m old h.0 asked sent h.1, item_out_several m h.0 new (Some x) h.2)
stepped_out_several m old new asked sent None h = ap Several h

step_flat_map : {T : Type 0} (m : Meaning T) (old mid : FlatMapNode T) (asked sent : ℕ) → IsStepDone (flat_comes_out m) flat_picks (λ n a s. false) (λ n a s k. ⊥) flat_recording flat_recorded IsGoing flat_ended flat_done old asked sent mid →
    IsStepDone (any_comes_out m) any_picks any_rows any_rowed any_recording any_recorded any_counted any_ended any_done (FlatMap old) asked sent (FlatMap mid)
step_flat_map m old mid asked sent (inl p) =
    let h = p.1 in
    inl (p.0, record { enabled = h.enabled; value = h.value; notes = h.notes; composes = h.composes; counts = stepped_flat_map old mid h.counts })
step_flat_map m old mid asked sent (inr h) = absurd h.row

pub stepped_out_flat_map : {T : Type 0} (m : Meaning T) (old new : FlatMapNode T) (asked sent : ℕ) (o : Option T) → IsSteppedOut (flat_comes_out m) (flat_waiting m) flat_picks (λ n a s. false) (λ n a s k. ⊥) flat_popped flat_recording flat_recorded IsGoing flat_ended flat_done old asked sent o new →
    IsSteppedOut (any_comes_out m) (any_waiting m) any_picks any_rows any_rowed any_popped any_recording any_recorded any_counted any_ended any_done (FlatMap old) asked sent o (FlatMap new)
stepped_out_flat_map m old new asked sent (Some x) h = (FlatMap h.0, step_flat_map m old h.0 asked sent h.1, item_out_flat_map m h.0 new (Some x) h.2)
stepped_out_flat_map m old new asked sent None h = ap FlatMap h

step_flat_map_delay : {T : Type 0} (m : Meaning T) (old mid : FlatMapDelayNode T) (asked sent : ℕ) → IsStepDone (flat_delay_comes_out m) flat_delay_picks (λ n a s. false) (λ n a s k. ⊥) flat_delay_recording flat_delay_recorded flat_delay_counted flat_delay_ended flat_delay_done old asked sent mid →
    IsStepDone (any_comes_out m) any_picks any_rows any_rowed any_recording any_recorded any_counted any_ended any_done (FlatMapDelay old) asked sent (FlatMapDelay mid)
step_flat_map_delay m old mid asked sent (inl p) =
    let h = p.1 in
    inl (p.0, record { enabled = h.enabled; value = h.value; notes = h.notes; composes = h.composes; counts = stepped_flat_map_delay old mid h.counts })
step_flat_map_delay m old mid asked sent (inr h) = absurd h.row

pub stepped_out_flat_map_delay : {T : Type 0} (m : Meaning T) (old new : FlatMapDelayNode T) (asked sent : ℕ) (o : Option T) → IsSteppedOut (flat_delay_comes_out m) (flat_delay_waiting m) flat_delay_picks (λ n a s. false) (λ n a s k. ⊥) flat_delay_popped flat_delay_recording flat_delay_recorded flat_delay_counted flat_delay_ended flat_delay_done old asked sent o new →
    IsSteppedOut (any_comes_out m) (any_waiting m) any_picks any_rows any_rowed any_popped any_recording any_recorded any_counted any_ended any_done (FlatMapDelay old) asked sent o (FlatMapDelay new)
stepped_out_flat_map_delay m old new asked sent (Some x) h = (FlatMapDelay h.0, step_flat_map_delay m old h.0 asked sent h.1, item_out_flat_map_delay m h.0 new (Some x) h.2)
stepped_out_flat_map_delay m old new asked sent None h = ap FlatMapDelay h

step_group_by : {T : Type 0} (m : Meaning T) (old mid : GroupByNode T) (asked sent : ℕ) → IsStepDone (group_comes_out m) group_picks (λ n a s. false) (λ n a s k. ⊥) group_recording group_recorded group_counted group_ended group_done old asked sent mid →
    IsStepDone (any_comes_out m) any_picks any_rows any_rowed any_recording any_recorded any_counted any_ended any_done (GroupBy old) asked sent (GroupBy mid)
step_group_by m old mid asked sent (inl p) =
    let h = p.1 in
    inl (p.0, record { enabled = h.enabled; value = h.value; notes = h.notes; composes = h.composes; counts = stepped_group_by old mid h.counts })
step_group_by m old mid asked sent (inr h) = absurd h.row

pub stepped_out_group_by : {T : Type 0} (m : Meaning T) (old new : GroupByNode T) (asked sent : ℕ) (o : Option T) → IsSteppedOut (group_comes_out m) (group_waiting m) group_picks (λ n a s. false) (λ n a s k. ⊥) IsPoppedGroup group_recording group_recorded group_counted group_ended group_done old asked sent o new →
    IsSteppedOut (any_comes_out m) (any_waiting m) any_picks any_rows any_rowed any_popped any_recording any_recorded any_counted any_ended any_done (GroupBy old) asked sent o (GroupBy new)
stepped_out_group_by m old new asked sent (Some x) h = (GroupBy h.0, step_group_by m old h.0 asked sent h.1, item_out_group_by m h.0 new (Some x) h.2)
stepped_out_group_by m old new asked sent None h = ap GroupBy h
