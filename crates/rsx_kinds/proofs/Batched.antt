-- A node of any kind makes the batches that its kind makes.
use Rattle.std.specs.Prelude.{⊤}
use Rattle.std.proofs.Common.{◌≡◌, ℕ, suc, Bool, true, false, if◌then◌else◌, None, List, [], ◌∷◌, length, Some, inl, inr, refl, ap, sym, ◌∙◌, subst, arith}
use Rattle.std.proofs.lemmas.Bool.{true≢false}
use Rattle.rsx_hub.specs.Leaf.{LeafState}
use Rattle.rsx_rooted.proofs.HubLeaves.{leaf_machine}
use Rattle.rsx_rooted.proofs.OneByOne.{passed_in, popped_in}
use Rattle.rsx_rooted.specs.Items.{ArePassed, ArePopped, IsIn, IsOut, IsOutBy}
use Rattle.rsx_rooted.specs.Machines.{plain_machine, range_machine}
use Rattle.rsx_rooted.specs.Went.{leaf_went, plain_went, range_went}
use Rattle.rsx_rooted.specs.declared.batch.After.TheVariants.{Counted, Picked, Latest as LatestAfter}
use Rattle.rsx_rooted.specs.declared.batch.Noted.{Noted}
use Rattle.rsx_plain.specs.declared.node.PlainNode.{PlainNode}
use Rattle.rsx_sources.specs.Prelude.{Meaning, Nothing}
use Rattle.rsx_sources.specs.declared.machine.Machine.{Ghosts as Machine}
use Rattle.rsx_sources.specs.declared.machine.Passed.TheVariants.{Kept}
use Rattle.rsx_sources.specs.declared.range.RangeNode.{RangeNode}
use Rattle.rsx_tree.specs.Stepped.{IsStepOf}
use Rattle.rsx_kinds.specs.Any.{kind_machine}
use Rattle.rsx_kinds.specs.Went.{any_went, several_went, source_went}
use Rattle.rsx_kinds.specs.Source.{source_comes_out, source_waiting, source_shown, source_popped, source_counted, source_reads, source_rooms, source_pop_allocates}
use Rattle.rsx_kinds.specs.declared.any_node.AnyNode.{AnyNode}
use Rattle.rsx_kinds.specs.declared.any_node.AnyNode.TheVariants.{Source, Plain, Several, PublishOn, PublishOnEager, Window, FlatMap, FlatMapDelay, GroupBy}
use Rattle.rsx_kinds.specs.declared.source_node.SourceNode.{SourceNode}
use Rattle.rsx_kinds.specs.declared.source_node.SourceNode.TheVariants.{Items, Range, Hub}
use Rattle.rsx_kinds.specs.Several.{several_comes_out, several_waiting, several_shown, several_takes, several_picks, several_rows, several_rowed, several_took, several_picked, several_recording, several_recorded, several_ended, several_done, several_counted, several_wanted, several_popped, several_step_allocates}
use Rattle.rsx_kinds.specs.declared.several_node.SeveralNode.{SeveralNode}
use Rattle.rsx_kinds.specs.declared.several_node.SeveralNode.TheVariants.{Concat, Merge, Latest}
use Rattle.rsx_merging.specs.Concat.{after_all_passed, after_passed, concat_takes}
use Rattle.rsx_combining.proofs.RowsThrough.{counted_rows, goes_on_through, goes_through_latest, fewer_through}
use Rattle.rsx_combining.specs.Latest.{LatestState}
use Rattle.rsx_combining.specs.LatestRows.{AreRows, after_row, after_rows, last_item, rows_counted, rows_through}
use Rattle.rsx_merging.specs.Merge.{after_all_merged, after_merged, merges_through}
use Rattle.rsx_merging.specs.declared.concat_node.ConcatNode.{ConcatNode}
use Rattle.rsx_merging.specs.declared.merge_node.MergeNode.{MergeNode}
use Rattle.rsx_merging.specs.PublishOn.{publish_takes}
use Rattle.rsx_merging.specs.declared.publish_on_node.PublishOnNode.{PublishOnNode}
use Rattle.rsx_merging.proofs.Passes.{goes_through}
use Rattle.rsx_merging.proofs.Through.{goes_through_concat}
use Rattle.rsx_sources.specs.declared.machine.Front.TheVariants.{Item}
use Rattle.rsx_kinds.proofs.Dispatch.{item_out_publish_on, passed_plain, passed_publish_on, passed_several, stepped_several}
use Rattle.rsx_merging.proofs.Merged.{goes_through_merge, merges_others}
use Rattle.rsx_kinds.proofs.SeveralDispatch.{item_out_concat, item_out_latest, item_out_merge, passed_concat, passed_latest, passed_merge, stepped_latest, stepped_merge}

-- the meaning of sources
abbrev pub source_machine : {T : Type 0} → Machine (SourceNode T) T
source_machine = record {
  comes_out = source_comes_out;
  waiting = source_waiting;
  shown = source_shown;
  takes = λ n i f. false;
  picks = λ n i a s. false;
  rows = λ n a s. false;
  rowed = λ n a s k. ⊥;
  took = λ n i s new. ⊤;
  heard = λ n s new. ⊤;
  picked = λ n i new. ⊤;
  recording = λ n i. Nothing;
  recorded = λ n. Nothing;
  popping = λ n. None;
  ended = λ n. false;
  done = λ n i. false;
  counted = source_counted;
  wanted = λ n i a s. 0;
  accepts = λ n a s. true;
  popped = source_popped;
  reads = source_reads;
  rooms = source_rooms;
  crosses = λ n. false;
  pop_allocates = source_pop_allocates;
  signal_allocates = λ a n. false;
  step_allocates = λ a n. false;
}

out_range : {T : Type 0} (m : Meaning T) (s : RangeNode T) (x : T) (t : RangeNode T) → IsOut range_machine m s x t → IsOut source_machine m (Range s) x (Range t)
out_range m s x t h = (record { waited = h.0.waited; popped_out = h.0.popped_out; value = h.0.value; notes = h.0.notes; counts = h.0.counts }, h.1, h.2)

out_hub : {T : Type 0} (m : Meaning T) (s : LeafState T) (x : T) (t : LeafState T) → IsOut leaf_machine m s x t → IsOut source_machine m (Hub s) x (Hub t)
out_hub m s x t h = (record { waited = h.0.waited; popped_out = h.0.popped_out; value = h.0.value; notes = h.0.notes; counts = h.0.counts }, h.1, h.2)

out_source : {T : Type 0} (m : Meaning T) (s : SourceNode T) (x : T) (t : SourceNode T) → IsOut source_machine m s x t → IsOut kind_machine m (Source s) x (Source t)
out_source m s x t h = (record { waited = h.0.waited; popped_out = h.0.popped_out; value = h.0.value; notes = h.0.notes; counts = h.0.counts }, h.1, h.2)

in_plain : {T : Type 0} (m : Meaning T) (i : ℕ) (s : PlainNode T) (x : T) (t : PlainNode T) → IsIn plain_machine m i s x t → IsIn kind_machine m i (Plain s) x (Plain t)
in_plain m i s x t h = (passed_plain m s t i x Kept h.0, h.1)

out_plain : {T : Type 0} (m : Meaning T) (s : PlainNode T) (x : T) (t : PlainNode T) → IsOut plain_machine m s x t → IsOut kind_machine m (Plain s) x (Plain t)
out_plain m s x t h = (record { waited = h.0.waited; popped_out = h.0.popped_out; value = h.0.value; notes = h.0.notes; counts = h.0.counts }, h.1, h.2)

no_step : {T : Type 0} (m : Meaning T) (s : RangeNode T) (asked sent : ℕ) (t : RangeNode T) → IsStepOf range_machine m s asked sent t → ⊥
no_step m s asked sent t (inl p) = true≢false (sym p.1.can)
no_step m s asked sent t (inr r) = true≢false (sym r.can)

no_source_step : {T : Type 0} (m : Meaning T) (s : SourceNode T) (asked sent : ℕ) (t : SourceNode T) → IsStepOf source_machine m s asked sent t → ⊥
no_source_step m s asked sent t (inl p) = true≢false (sym p.1.can)
no_source_step m s asked sent t (inr r) = true≢false (sym r.can)

out_range_by : {T : Type 0} (m : Meaning T) (by : Bool) (s : RangeNode T) (x : T) (t : RangeNode T) → IsOutBy range_machine m by s x t → IsOutBy source_machine m by (Range s) x (Range t)
out_range_by m false s x t h = out_range m s x t h
out_range_by m true s x t h = λ asked sent less. let o = h asked sent less in absurd (no_step m s asked sent o.0 o.1)

out_source_by : {T : Type 0} (m : Meaning T) (by : Bool) (s : SourceNode T) (x : T) (t : SourceNode T) → IsOutBy source_machine m by s x t → IsOutBy kind_machine m by (Source s) x (Source t)
out_source_by m false s x t h = out_source m s x t h
out_source_by m true s x t h = λ asked sent less. let o = h asked sent less in absurd (no_source_step m s asked sent o.0 o.1)

pub popped_range : {T : Type 0} (m : Meaning T) (n : RangeNode T) (noted : Noted T) (xs : List T) → ((new : RangeNode T) → range_went n noted.after new → ArePopped (IsOutBy range_machine m noted.by_step) n xs new) → (new : SourceNode T) → source_went (Range n) noted new → ArePopped (IsOutBy source_machine m noted.by_step) (Range n) xs new
popped_range m n noted xs h (Range k) w = popped_in Range (IsOutBy range_machine m noted.by_step) (IsOutBy source_machine m noted.by_step) (out_range_by m noted.by_step) xs n k (h k w)
popped_range m n noted xs h (Items k) w = absurd w
popped_range m n noted xs h (Hub k) w = absurd w

no_leaf_step : {T : Type 0} (m : Meaning T) (s : LeafState T) (asked sent : ℕ) (t : LeafState T) → IsStepOf leaf_machine m s asked sent t → ⊥
no_leaf_step m s asked sent t (inl p) = true≢false (sym p.1.can)
no_leaf_step m s asked sent t (inr r) = true≢false (sym r.can)

out_hub_by : {T : Type 0} (m : Meaning T) (by : Bool) (s : LeafState T) (x : T) (t : LeafState T) → IsOutBy leaf_machine m by s x t → IsOutBy source_machine m by (Hub s) x (Hub t)
out_hub_by m false s x t h = out_hub m s x t h
out_hub_by m true s x t h = λ asked sent less. let o = h asked sent less in absurd (no_leaf_step m s asked sent o.0 o.1)

pub popped_hub : {T : Type 0} (m : Meaning T) (n : LeafState T) (noted : Noted T) (xs : List T) → ((new : LeafState T) → leaf_went n noted.after new → ArePopped (IsOutBy leaf_machine m noted.by_step) n xs new) → (new : SourceNode T) → source_went (Hub n) noted new → ArePopped (IsOutBy source_machine m noted.by_step) (Hub n) xs new
popped_hub m n noted xs h (Hub k) w = popped_in Hub (IsOutBy leaf_machine m noted.by_step) (IsOutBy source_machine m noted.by_step) (out_hub_by m noted.by_step) xs n k (h k w)
popped_hub m n noted xs h (Items k) w = absurd w
popped_hub m n noted xs h (Range k) w = absurd w

pub popped_source : {T : Type 0} (m : Meaning T) (n : SourceNode T) (noted : Noted T) (xs : List T) → ((new : SourceNode T) → source_went n noted new → ArePopped (IsOutBy source_machine m noted.by_step) n xs new) → (new : AnyNode T) → any_went (Source n) noted new → ArePopped (IsOutBy kind_machine m noted.by_step) (Source n) xs new
popped_source m n noted xs h (Source k) w = popped_in Source (IsOutBy source_machine m noted.by_step) (IsOutBy kind_machine m noted.by_step) (out_source_by m noted.by_step) xs n k (h k w)
popped_source m n noted xs h (Plain k) w = absurd w
popped_source m n noted xs h (Several k) w = absurd w
popped_source m n noted xs h (PublishOn k) w = absurd w
popped_source m n noted xs h (PublishOnEager k) w = absurd w
popped_source m n noted xs h (Window k) w = absurd w
popped_source m n noted xs h (FlatMap k) w = absurd w
popped_source m n noted xs h (FlatMapDelay k) w = absurd w
popped_source m n noted xs h (GroupBy k) w = absurd w

-- the items that a node which reads a hub lets out at once
pub hub_popped : {T : Type 0} (m : Meaning T) (xs : List T) (n k : LeafState T) → ArePopped (IsOut leaf_machine m) n xs k → ArePopped (IsOut source_machine m) (Hub n) xs (Hub k)
hub_popped m xs n k h = popped_in Hub (IsOut leaf_machine m) (IsOut source_machine m) (out_hub m) xs n k h

pub source_popped_all : {T : Type 0} (m : Meaning T) (xs : List T) (n k : SourceNode T) → ArePopped (IsOut source_machine m) n xs k → ArePopped (IsOut kind_machine m) (Source n) xs (Source k)
source_popped_all m xs n k h = popped_in Source (IsOut source_machine m) (IsOut kind_machine m) (out_source m) xs n k h

no_plain_step : {T : Type 0} (m : Meaning T) (s : PlainNode T) (asked sent : ℕ) (t : PlainNode T) → IsStepOf plain_machine m s asked sent t → ⊥
no_plain_step m s asked sent t (inl p) = true≢false (sym p.1.can)
no_plain_step m s asked sent t (inr r) = true≢false (sym r.can)

out_plain_by : {T : Type 0} (m : Meaning T) (by : Bool) (s : PlainNode T) (x : T) (t : PlainNode T) → IsOutBy plain_machine m by s x t → IsOutBy kind_machine m by (Plain s) x (Plain t)
out_plain_by m false s x t h = out_plain m s x t h
out_plain_by m true s x t h = λ asked sent less. let o = h asked sent less in absurd (no_plain_step m s asked sent o.0 o.1)

pub passed_plain_all : {T : Type 0} (m : Meaning T) (i : ℕ) (n : PlainNode T) (noted : Noted T) (xs ys : List T) → ((new : PlainNode T) → plain_went n noted.after new → ArePassed (IsIn plain_machine m i) (IsOutBy plain_machine m noted.by_step) n xs ys new) → (new : AnyNode T) → any_went (Plain n) noted new → ArePassed (IsIn kind_machine m i) (IsOutBy kind_machine m noted.by_step) (Plain n) xs ys new
passed_plain_all m i n noted xs ys h (Plain k) w = passed_in Plain (IsIn plain_machine m i) (IsOutBy plain_machine m noted.by_step) (IsIn kind_machine m i) (IsOutBy kind_machine m noted.by_step) (in_plain m i) (out_plain_by m noted.by_step) xs ys n k (h k w)
passed_plain_all m i n noted xs ys h (Source k) w = absurd w
passed_plain_all m i n noted xs ys h (Several k) w = absurd w
passed_plain_all m i n noted xs ys h (PublishOn k) w = absurd w
passed_plain_all m i n noted xs ys h (PublishOnEager k) w = absurd w
passed_plain_all m i n noted xs ys h (Window k) w = absurd w
passed_plain_all m i n noted xs ys h (FlatMap k) w = absurd w
passed_plain_all m i n noted xs ys h (FlatMapDelay k) w = absurd w
passed_plain_all m i n noted xs ys h (GroupBy k) w = absurd w

-- ---- a node of several inputs

-- the meaning of nodes of several inputs
abbrev pub several_machine : {T : Type 0} → Machine (SeveralNode T) T
several_machine = record {
  comes_out = several_comes_out;
  waiting = several_waiting;
  shown = several_shown;
  takes = several_takes;
  picks = several_picks;
  rows = several_rows;
  rowed = several_rowed;
  took = several_took;
  heard = λ n s new. ⊤;
  picked = several_picked;
  recording = several_recording;
  recorded = several_recorded;
  popping = λ n. None;
  ended = several_ended;
  done = several_done;
  counted = several_counted;
  wanted = several_wanted;
  accepts = λ n a s. true;
  popped = several_popped;
  reads = λ n. None;
  rooms = λ n. false;
  crosses = λ n. false;
  pop_allocates = λ a n. false;
  signal_allocates = λ a n. false;
  step_allocates = several_step_allocates;
}

-- items go through a concat as they are
through_concat : {T : Type 0} (m : Meaning T) (i : ℕ) (xs : List T) (n : ConcatNode T) → concat_takes n i Item ≡ true → ArePassed (IsIn several_machine m i) (IsOut several_machine m) (Concat n) xs xs (Concat (after_all_passed n (length xs)))
through_concat m i [] n takes = (refl, refl)
through_concat m i (x ∷ xs) n takes =
    let h = goes_through_concat m n i x takes in (
      Concat h.0,
      (passed_concat m n h.0 i x Kept h.1, (refl, (refl, λ a. (refl, refl, refl)))),
      inr (x, xs, Concat (after_passed n), refl, (item_out_concat m h.0 (after_passed n) (Some x) h.2, (refl, (refl, λ a. (refl, refl, refl))), refl), through_concat m i xs (after_passed n) takes),
    )

pub passed_concat_all : {T : Type 0} (m : Meaning T) (i : ℕ) (old new : SeveralNode T) (n : ConcatNode T) (took : ℕ) (xs : List T) → old ≡ Concat n → concat_takes n i Item ≡ true → took ≡ length xs → several_went old (record { took = took; steps = 0; by_step = false; after = Counted }) new →
    ArePassed (IsIn several_machine m i) (IsOut several_machine m) old xs xs new
passed_concat_all {T} m i old new n took xs is takes all w =
    let P : SeveralNode T → Type 0 = λ s. several_went s (record { took = took; steps = 0; by_step = false; after = Counted }) new → ArePassed (IsIn several_machine m i) (IsOut several_machine m) s xs xs new in
    let Q : SeveralNode T → Type 0 = λ s. ArePassed (IsIn several_machine m i) (IsOut several_machine m) (Concat n) xs xs s in
    subst P (sym is) (λ gone. subst Q (sym (gone ∙ ap (λ k. Concat (after_all_passed n k)) all)) (through_concat m i xs n takes)) w

-- items go through a merge, each picked as it comes
picks_merge : {T : Type 0} (m : Meaning T) (i : ℕ) (xs : List T) (n : MergeNode T) → merges_through n i (length xs) ≡ true → ArePassed (IsIn several_machine m i) (IsOutBy several_machine m true) (Merge n) xs xs (Merge (after_all_merged n i (length xs)))
picks_merge m i [] n can = (refl, refl)
picks_merge m i (x ∷ xs) n can =
    let h = goes_through_merge m n i (length xs) x can in (
      Merge h.0,
      (passed_merge m n h.0 i x Kept h.1, (refl, (refl, λ a. (refl, refl, refl)))),
      inr (
        x,
        xs,
        Merge (after_merged n i),
        refl,
        (λ asked sent less.
            let o = h.2 asked sent less in
            let p = o.1 in (
              Merge o.0,
              inl (i, record { can = p.enabled; value = p.value; recorded = p.notes; composes = p.composes; counts = stepped_merge h.0 o.0 p.counts; alike = (refl, (refl, λ a. (refl, refl, refl))) }),
              o.2,
              (item_out_merge m o.0 (after_merged n i) (Some x) o.3, (refl, (refl, λ a. (refl, refl, refl))), refl),
            )),
        picks_merge m i xs (after_merged n i) (merges_others n i (length xs) can),
      ),
    )

pub picked_merge_all : {T : Type 0} (m : Meaning T) (i : ℕ) (old new : SeveralNode T) (n : MergeNode T) (took steps : ℕ) (by : Bool) (xs : List T) → old ≡ Merge n → merges_through n i took ≡ true → took ≡ length xs → several_went old (record { took = took; steps = steps; by_step = by; after = Picked i }) new →
    ArePassed (IsIn several_machine m i) (IsOutBy several_machine m true) old xs xs new
picked_merge_all {T} m i old new n took steps by xs is can all w =
    let P : SeveralNode T → Type 0 = λ s. several_went s (record { took = took; steps = steps; by_step = by; after = Picked i }) new → ArePassed (IsIn several_machine m i) (IsOutBy several_machine m true) s xs xs new in
    let Q : SeveralNode T → Type 0 = λ s. ArePassed (IsIn several_machine m i) (IsOutBy several_machine m true) (Merge n) xs xs s in
    let here : merges_through n i (length xs) ≡ true = sym (ap (merges_through n i) all) ∙ can in
    subst P (sym is) (λ gone. subst Q (sym (gone ∙ ap (λ b. Merge (if b then after_all_merged n i took else n)) can ∙ ap (λ k. Merge (after_all_merged n i k)) all)) (picks_merge m i xs n here)) w

-- items go through a combineLatest as rows, each picked as it comes
rows_latest : {T : Type 0} (m : Meaning T) (i : ℕ) (xs ys : List T) (n : LatestState T) → rows_through n i (length xs) ≡ true → AreRows m.row_of n.latest i xs ys → ArePassed (IsIn several_machine m i) (IsOutBy several_machine m true) (Latest n) xs ys (Latest (after_rows n i xs))
rows_latest m i [] [] n can rows = (refl, refl)
rows_latest m i [] (y ∷ ys) n can rows = absurd rows
rows_latest m i (x ∷ xs) [] n can rows = absurd rows
rows_latest m i (x ∷ xs) (y ∷ ys) n can rows =
    let h = goes_through_latest m n i x y (fewer_through n i (suc (length xs)) 1 (omega arith) can) rows.0 in (
      Latest h.0,
      (passed_latest m n h.0 i x Kept h.1, (refl, (refl, λ a. (refl, refl, refl)))),
      inr (
        y,
        ys,
        Latest (after_row n i x),
        refl,
        (λ asked sent less.
            let o = h.2 asked sent less in
            let p = o.1 in (
              Latest o.0,
              inl (i, record { can = p.enabled; value = p.value; recorded = p.notes; composes = p.composes; counts = stepped_latest h.0 o.0 p.counts; alike = (refl, (refl, λ a. (refl, refl, refl))) }),
              o.2,
              (item_out_latest m o.0 (after_row n i x) (Some y) o.3, (refl, (refl, λ a. (refl, refl, refl))), refl),
            )),
        rows_latest m i xs ys (after_row n i x) (goes_on_through n i (length xs) x can) rows.1,
      ),
    )

pub picked_latest_all : {T : Type 0} (m : Meaning T) (i : ℕ) (old new : SeveralNode T) (n : LatestState T) (took steps : ℕ) (by : Bool) (last : T) (xs ys : List T) → old ≡ Latest n → rows_through n i (length xs) ≡ true → took ≡ length xs → AreRows m.row_of n.latest i xs ys → last_item xs ≡ Some last →
    several_went old (record { took = took; steps = steps; by_step = by; after = LatestAfter i last }) new → ArePassed (IsIn several_machine m i) (IsOutBy several_machine m true) old xs ys new
picked_latest_all {T} m i old new n took steps by last xs ys is can all rows end w =
    let P : SeveralNode T → Type 0 = λ s. several_went s (record { took = took; steps = steps; by_step = by; after = LatestAfter i last }) new → ArePassed (IsIn several_machine m i) (IsOutBy several_machine m true) s xs ys new in
    let Q : SeveralNode T → Type 0 = λ s. ArePassed (IsIn several_machine m i) (IsOutBy several_machine m true) (Latest n) xs ys s in
    let here : rows_through n i took ≡ true = ap (rows_through n i) all ∙ can in
    subst P (sym is) (λ gone. subst Q (sym (gone ∙ ap (λ b. Latest (if b then rows_counted n i took last else n)) here ∙ ap Latest (counted_rows n i took xs last (sym all) end))) (rows_latest m i xs ys n can rows)) w

in_several : {T : Type 0} (m : Meaning T) (i : ℕ) (s : SeveralNode T) (x : T) (t : SeveralNode T) → IsIn several_machine m i s x t → IsIn kind_machine m i (Several s) x (Several t)
in_several m i s x t h = (passed_several m s t i x Kept h.0, h.1)

out_several : {T : Type 0} (m : Meaning T) (s : SeveralNode T) (x : T) (t : SeveralNode T) → IsOut several_machine m s x t → IsOut kind_machine m (Several s) x (Several t)
out_several m s x t h = (record { waited = h.0.waited; popped_out = h.0.popped_out; value = h.0.value; notes = h.0.notes; counts = h.0.counts }, h.1, h.2)

step_several : {T : Type 0} (m : Meaning T) (s : SeveralNode T) (asked sent : ℕ) (t : SeveralNode T) → IsStepOf several_machine m s asked sent t → IsStepOf kind_machine m (Several s) asked sent (Several t)
step_several m s asked sent t (inl p) =
    let h = p.1 in
    inl (p.0, record { can = h.can; value = h.value; recorded = h.recorded; composes = h.composes; counts = stepped_several s t h.counts; alike = h.alike })
step_several m s asked sent t (inr h) = inr (record { can = h.can; row = h.row; value = h.value; recorded = h.recorded; counts = stepped_several s t h.counts; alike = h.alike })

out_several_by : {T : Type 0} (m : Meaning T) (by : Bool) (s : SeveralNode T) (x : T) (t : SeveralNode T) → IsOutBy several_machine m by s x t → IsOutBy kind_machine m by (Several s) x (Several t)
out_several_by m false s x t h = out_several m s x t h
out_several_by m true s x t h = λ asked sent less.
    let o = h asked sent less in
    (Several o.0, step_several m s asked sent o.0 o.1, o.2, out_several m o.0 x t o.3)

-- the items that it puts out by steps
pub several_stepped_out : {T : Type 0} (m : Meaning T) (xs : List T) (n k : SeveralNode T) → ArePopped (IsOutBy several_machine m true) n xs k → ArePopped (IsOutBy kind_machine m true) (Several n) xs (Several k)
several_stepped_out m xs n k h = popped_in Several (IsOutBy several_machine m true) (IsOutBy kind_machine m true) (out_several_by m true) xs n k h

pub passed_several_all : {T : Type 0} (m : Meaning T) (i : ℕ) (n : SeveralNode T) (noted : Noted T) (xs ys : List T) → ((new : SeveralNode T) → several_went n noted new → ArePassed (IsIn several_machine m i) (IsOutBy several_machine m noted.by_step) n xs ys new) → (new : AnyNode T) → any_went (Several n) noted new → ArePassed (IsIn kind_machine m i) (IsOutBy kind_machine m noted.by_step) (Several n) xs ys new
passed_several_all m i n noted xs ys h (Several k) w = passed_in Several (IsIn several_machine m i) (IsOutBy several_machine m noted.by_step) (IsIn kind_machine m i) (IsOutBy kind_machine m noted.by_step) (in_several m i) (out_several_by m noted.by_step) xs ys n k (h k w)
passed_several_all m i n noted xs ys h (Source k) w = absurd w
passed_several_all m i n noted xs ys h (Plain k) w = absurd w
passed_several_all m i n noted xs ys h (PublishOn k) w = absurd w
passed_several_all m i n noted xs ys h (PublishOnEager k) w = absurd w
passed_several_all m i n noted xs ys h (Window k) w = absurd w
passed_several_all m i n noted xs ys h (FlatMap k) w = absurd w
passed_several_all m i n noted xs ys h (FlatMapDelay k) w = absurd w
passed_several_all m i n noted xs ys h (GroupBy k) w = absurd w

-- ---- a `publishOn`

-- items go through one with an empty queue as they are, and it stays
through_publish_on : {T : Type 0} (m : Meaning T) (i : ℕ) (xs : List T) (n : PublishOnNode T) → n.input.queue.items ≡ [] → publish_takes n i Item ≡ true → ArePassed (IsIn kind_machine m i) (IsOut kind_machine m) (PublishOn n) xs xs (PublishOn n)
through_publish_on m i [] n empty takes = (refl, refl)
through_publish_on m i (x ∷ xs) n empty takes =
    let h = goes_through m n i x empty takes in (
      PublishOn h.0,
      (passed_publish_on m n h.0 i x Kept h.1, (refl, (refl, λ a. (refl, refl, refl)))),
      inr (x, xs, PublishOn n, refl, (item_out_publish_on m h.0 n (Some x) h.2, (refl, (refl, λ a. (refl, refl, refl))), refl), through_publish_on m i xs n empty takes),
    )

pub passed_publish_on_all : {T : Type 0} (m : Meaning T) (i : ℕ) (old new : AnyNode T) (n : PublishOnNode T) (noted : Noted T) (xs : List T) → old ≡ PublishOn n → n.input.queue.items ≡ [] → publish_takes n i Item ≡ true → any_went old noted new →
    ArePassed (IsIn kind_machine m i) (IsOut kind_machine m) old xs xs new
passed_publish_on_all {T} m i old new n noted xs is empty takes w =
    let P : AnyNode T → Type 0 = λ s. any_went s noted new → ArePassed (IsIn kind_machine m i) (IsOut kind_machine m) s xs xs new in
    let Q : AnyNode T → Type 0 = λ s. ArePassed (IsIn kind_machine m i) (IsOut kind_machine m) (PublishOn n) xs xs s in
    subst P (sym is) (λ gone. subst Q (sym gone) (through_publish_on m i xs n empty takes)) w
