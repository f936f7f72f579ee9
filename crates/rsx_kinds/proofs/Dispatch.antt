-- A node of any kind moves as its kind does.
use Rattle.std.specs.Prelude.{IfOk, IfSome, ⊤}
use Rattle.std.proofs.Common.{◌≡◌, ap, refl, ℕ, false, Option, Some, None, Result, Ok, Err}
use Rattle.rsx_sources.specs.Prelude.{Meaning, NoMemory, Note, Nothing, Signal, Next, Complete, Error, CountsIn, CountsOut, CountsStep, IsItemOut, IsItemOutBy, IsPassed, IsTakenIn, IsReadOn, IsPopped, IsPoppedBy, IsPoppedNoting, ItemsLeft, items_comes_out, items_popped, items_waiting, range_comes_out, range_popped, range_waiting}
use Rattle.rsx_kinds.specs.Prelude.{AnyNode, CountsItems, Declined, PublishOnEagerNode, FlatMapDelayNode, FlatMapNode, GroupByNode, IsGoing, IsPoppedGroup, IsPoppedWindow, Item, Kept, LeafState, Passed, PlainNode, RangeNode, SeveralNode, SourceNode, WindowNode, any_comes_out, any_counted, any_done, any_ended, any_popped, any_recorded, any_takes, any_waiting, IsEagerCounted, eager_comes_out, eager_done, eager_ended, eager_popped, eager_recorded, eager_takes, eager_waiting, flat_comes_out, flat_delay_comes_out, flat_delay_counted, flat_delay_done, flat_delay_ended, flat_delay_popped, flat_delay_recorded, flat_delay_takes, flat_delay_waiting, flat_done, flat_ended, flat_popped, flat_recorded, flat_takes, flat_waiting, group_comes_out, group_counted, group_done, group_ended, group_recorded, group_takes, group_waiting, leaf_comes_out, leaf_counted, leaf_popped, leaf_reads, leaf_waiting, plain_comes_out, plain_counted, plain_ended, plain_popped, plain_takes, plain_waiting, publish_comes_out, publish_counted, publish_ended, publish_popped, publish_takes, publish_waiting, several_comes_out, several_counted, several_done, several_ended, several_popped, several_recorded, several_takes, several_waiting, source_comes_out, source_counted, source_popped, source_reads, source_waiting, window_comes_out, window_done, window_ended, window_takes, window_waiting}
use Rattle.rsx_merging.specs.declared.publish_on_node.PublishOnNode.{PublishOnNode}
use Rattle.rsx_kinds.specs.declared.any_node.AnyNode.TheVariants.{Source, Plain, Several, PublishOn, PublishOnEager, Window, FlatMap, FlatMapDelay, GroupBy}
use Rattle.rsx_kinds.specs.declared.source_node.SourceNode.TheVariants.{Items, Range, Hub}

-- ---- a source

pub popped_range : {T : Type 0} (m : Meaning T) (old new : RangeNode T) (o : Option (Signal T)) → IsPopped (range_comes_out m) range_popped (range_waiting m old) old o new → IsPopped (source_comes_out m) source_popped (range_waiting m old) (Range old) o (Range new)
popped_range m old new None h = (h.0, ap Range h.1)
popped_range m old new (Some s) h = h

pub popped_items : {T : Type 0} (m : Meaning T) (old new : ItemsLeft T) (o : Option (Signal T)) → IsPopped (items_comes_out m) items_popped (items_waiting m old) old o new → IsPopped (source_comes_out m) source_popped (items_waiting m old) (Items old) o (Items new)
popped_items m old new None h = (h.0, ap Items h.1)
popped_items m old new (Some s) h = h

pub popped_hub : {T : Type 0} (m : Meaning T) (old new : LeafState T) (o : Option (Signal T)) → IsPopped (leaf_comes_out m) leaf_popped (leaf_waiting m old) old o new → IsPopped (source_comes_out m) source_popped (leaf_waiting m old) (Hub old) o (Hub new)
popped_hub m old new None h = (h.0, ap Hub h.1)
popped_hub m old new (Some s) h = h

abbrev pub IsOutSource : {T : Type 0} → Meaning T → SourceNode T → T → SourceNode T → Type 0
IsOutSource m old x new = IsItemOut (source_comes_out m) (source_waiting m) source_popped (λ n. Nothing) source_counted (λ n. false) (λ n i. false) old x new

out_items : {T : Type 0} (m : Meaning T) (old new : ItemsLeft T) (x : T) → IsItemOut (items_comes_out m) (items_waiting m) items_popped (λ n. Nothing) (λ n taken sent. ⊤) (λ n. false) (λ n i. false) old x new → IsOutSource m (Items old) x (Items new)
out_items m old new x h = record { waited = h.waited; popped_out = h.popped_out; value = h.value; notes = h.notes; counts = h.counts }

out_range : {T : Type 0} (m : Meaning T) (old new : RangeNode T) (x : T) → IsItemOut (range_comes_out m) (range_waiting m) range_popped (λ n. Nothing) (λ n taken sent. ⊤) (λ n. false) (λ n i. false) old x new → IsOutSource m (Range old) x (Range new)
out_range m old new x h = record { waited = h.waited; popped_out = h.popped_out; value = h.value; notes = h.notes; counts = h.counts }

out_hub : {T : Type 0} (m : Meaning T) (old new : LeafState T) (x : T) → IsItemOut (leaf_comes_out m) (leaf_waiting m) leaf_popped (λ n. Nothing) leaf_counted (λ n. false) (λ n i. false) old x new → IsOutSource m (Hub old) x (Hub new)
out_hub m old new x h = record { waited = h.waited; popped_out = h.popped_out; value = h.value; notes = h.notes; counts = h.counts }

pub item_out_items : {T : Type 0} (m : Meaning T) (old new : ItemsLeft T) (o : Option T) → IfSome o (λ x. IsItemOut (items_comes_out m) (items_waiting m) items_popped (λ n. Nothing) (λ n taken sent. ⊤) (λ n. false) (λ n i. false) old x new) → IfSome o (λ x. IsOutSource m (Items old) x (Items new))
item_out_items m old new None h = h
item_out_items m old new (Some x) h = out_items m old new x h

pub item_out_range : {T : Type 0} (m : Meaning T) (old new : RangeNode T) (o : Option T) → IfSome o (λ x. IsItemOut (range_comes_out m) (range_waiting m) range_popped (λ n. Nothing) (λ n taken sent. ⊤) (λ n. false) (λ n i. false) old x new) → IfSome o (λ x. IsOutSource m (Range old) x (Range new))
item_out_range m old new None h = h
item_out_range m old new (Some x) h = out_range m old new x h

pub item_out_hub : {T : Type 0} (m : Meaning T) (old new : LeafState T) (o : Option T) → IfSome o (λ x. IsItemOut (leaf_comes_out m) (leaf_waiting m) leaf_popped (λ n. Nothing) leaf_counted (λ n. false) (λ n i. false) old x new) → IfSome o (λ x. IsOutSource m (Hub old) x (Hub new))
item_out_hub m old new None h = h
item_out_hub m old new (Some x) h = out_hub m old new x h

pub counted_items : {T : Type 0} (old new : ItemsLeft T) (o : Option (Signal T)) → CountsOut source_counted (λ n. false) (λ n i. false) (Items old) o (Items new)
counted_items old new None = tt
counted_items old new (Some (Next x)) = (refl, (λ taken sent c. c), (λ j d. d))
counted_items old new (Some Complete) = tt
counted_items old new (Some (Error c)) = tt

pub counted_range : {T : Type 0} (old new : RangeNode T) (o : Option (Signal T)) → CountsOut source_counted (λ n. false) (λ n i. false) (Range old) o (Range new)
counted_range old new None = tt
counted_range old new (Some (Next x)) = (refl, (λ taken sent c. c), (λ j d. d))
counted_range old new (Some Complete) = tt
counted_range old new (Some (Error c)) = tt

pub counted_hub : {T : Type 0} (old new : LeafState T) (o : Option (Signal T)) → CountsOut leaf_counted (λ n. false) (λ n i. false) old o new → CountsOut source_counted (λ n. false) (λ n i. false) (Hub old) o (Hub new)
counted_hub old new None h = tt
counted_hub old new (Some (Next x)) h = h
counted_hub old new (Some Complete) h = tt
counted_hub old new (Some (Error c)) h = tt

pub stepped_hub : {T : Type 0} (old new : LeafState T) → CountsStep leaf_counted (λ n. false) (λ n i. false) old new → CountsStep source_counted (λ n. false) (λ n i. false) (Hub old) (Hub new)
stepped_hub old new h = record { stays_ended = h.stays_ended; counts = h.counts; stays_done = h.stays_done }

-- a signal that comes back
pub returned_items : {T : Type 0} (before : SourceNode T) (s : Signal T) (n n' : ItemsLeft T) → source_popped before s (Items n) → ((b : ItemsLeft T) → items_popped b s n → n' ≡ b) → Items n' ≡ before
returned_items (Items a) s n n' h k = ap Items (k a h)
returned_items (Range a) s n n' h k = absurd h
returned_items (Hub a) s n n' h k = absurd h

pub returned_range : {T : Type 0} (before : SourceNode T) (s : Signal T) (n n' : RangeNode T) → source_popped before s (Range n) → ((b : RangeNode T) → range_popped b s n → n' ≡ b) → Range n' ≡ before
returned_range (Items a) s n n' h k = absurd h
returned_range (Range a) s n n' h k = ap Range (k a h)
returned_range (Hub a) s n n' h k = absurd h

pub returned_hub : {T : Type 0} (before : SourceNode T) (s : Signal T) (n n' : LeafState T) → source_popped before s (Hub n) → ((b : LeafState T) → leaf_popped b s n → n' ≡ b) → Hub n' ≡ before
returned_hub (Items a) s n n' h k = absurd h
returned_hub (Range a) s n n' h k = absurd h
returned_hub (Hub a) s n n' h k = ap Hub (k a h)

-- a signal of its hub is taken in
pub read_on_hub : {T : Type 0} (old : LeafState T) (s : Signal T) (new : LeafState T) → IsReadOn leaf_comes_out leaf_reads old s new → IsReadOn source_comes_out source_reads (Hub old) s (Hub new)
read_on_hub old s new h = record { reading = h.reading; read = h.read; reads_on = h.reads_on; value = h.value }

-- ---- a node

pub popped_source : {T : Type 0} (m : Meaning T) (old new : SourceNode T) (o : Option (Signal T)) → IsPopped (source_comes_out m) source_popped (source_waiting m old) old o new → IsPopped (any_comes_out m) any_popped (source_waiting m old) (Source old) o (Source new)
popped_source m old new None h = (h.0, ap Source h.1)
popped_source m old new (Some s) h = h

pub popped_several : {T : Type 0} (m : Meaning T) (old new : SeveralNode T) (o : Option (Signal T)) → IsPopped (several_comes_out m) several_popped (several_waiting m old) old o new → IsPopped (any_comes_out m) any_popped (several_waiting m old) (Several old) o (Several new)
popped_several m old new None h = (h.0, ap Several h.1)
popped_several m old new (Some s) h = h

pub popped_publish_on : {T : Type 0} (m : Meaning T) (old new : PublishOnNode T) (o : Option (Signal T)) → IsPopped (publish_comes_out m) publish_popped (publish_waiting m old) old o new → IsPopped (any_comes_out m) any_popped (publish_waiting m old) (PublishOn old) o (PublishOn new)
popped_publish_on m old new None h = (h.0, ap PublishOn h.1)
popped_publish_on m old new (Some s) h = h

noting_publish_on_eager : {T : Type 0} (m : Meaning T) (k : Note) (w : Option (Signal T)) (old : PublishOnEagerNode T) (s : Signal T) (new : PublishOnEagerNode T) → IsPoppedNoting (eager_comes_out m) eager_popped eager_recorded eager_ended k w old s new →
    IsPoppedNoting (any_comes_out m) any_popped any_recorded any_ended k w (PublishOnEager old) s (PublishOnEager new)
noting_publish_on_eager m k w old s new h = record {
  waited = h.waited;
  item = h.item;
  popped_out = h.popped_out;
  ready = PublishOnEager h.ready;
  noted = let r = h.noted in record { value = r.value; notes = r.notes; composes = r.composes; goes_on = r.goes_on };
  value = h.value;
  notes = h.notes;
}

-- its items may be recorded as they go out
recorded_or_not : {T : Type 0} (m : Meaning T) (p : Option Note) (w : Option (Signal T)) (old : PublishOnEagerNode T) (o : Option (Signal T)) (new : PublishOnEagerNode T) → IsPoppedBy (eager_comes_out m) eager_popped eager_recorded eager_ended p w old o new →
    IsPoppedBy (any_comes_out m) any_popped any_recorded any_ended p w (PublishOnEager old) o (PublishOnEager new)
recorded_or_not m None w old None new h = (h.0, ap PublishOnEager h.1)
recorded_or_not m None w old (Some s) new h = h
recorded_or_not m (Some k) w old None new h = (h.0, ap PublishOnEager h.1)
recorded_or_not m (Some k) w old (Some s) new h = noting_publish_on_eager m k w old s new h

pub popped_publish_on_eager : {T : Type 0} (m : Meaning T) (p : Option Note) (w : Option (Signal T)) (old new : PublishOnEagerNode T) (r : Result (Option (Signal T)) NoMemory) → IfOk r (λ o. IsPoppedBy (eager_comes_out m) eager_popped eager_recorded eager_ended p w old o new) →
    IfOk r (λ o. IsPoppedBy (any_comes_out m) any_popped any_recorded any_ended p w (PublishOnEager old) o (PublishOnEager new))
popped_publish_on_eager m p w old new (Ok o) h = recorded_or_not m p w old o new h
popped_publish_on_eager m p w old new (Err e) h = tt

pub popped_window : {T : Type 0} (m : Meaning T) (old new : WindowNode T) (o : Option (Signal T)) → IsPopped (window_comes_out m) IsPoppedWindow (window_waiting m old) old o new → IsPopped (any_comes_out m) any_popped (window_waiting m old) (Window old) o (Window new)
popped_window m old new None h = (h.0, ap Window h.1)
popped_window m old new (Some s) h = h

pub popped_flat_map : {T : Type 0} (m : Meaning T) (old new : FlatMapNode T) (o : Option (Signal T)) → IsPopped (flat_comes_out m) flat_popped (flat_waiting m old) old o new → IsPopped (any_comes_out m) any_popped (flat_waiting m old) (FlatMap old) o (FlatMap new)
popped_flat_map m old new None h = (h.0, ap FlatMap h.1)
popped_flat_map m old new (Some s) h = h

pub popped_flat_map_delay : {T : Type 0} (m : Meaning T) (old new : FlatMapDelayNode T) (o : Option (Signal T)) → IsPopped (flat_delay_comes_out m) flat_delay_popped (flat_delay_waiting m old) old o new → IsPopped (any_comes_out m) any_popped (flat_delay_waiting m old) (FlatMapDelay old) o (FlatMapDelay new)
popped_flat_map_delay m old new None h = (h.0, ap FlatMapDelay h.1)
popped_flat_map_delay m old new (Some s) h = h

pub popped_group_by : {T : Type 0} (m : Meaning T) (old new : GroupByNode T) (o : Option (Signal T)) → IsPopped (group_comes_out m) IsPoppedGroup (group_waiting m old) old o new → IsPopped (any_comes_out m) any_popped (group_waiting m old) (GroupBy old) o (GroupBy new)
popped_group_by m old new None h = (h.0, ap GroupBy h.1)
popped_group_by m old new (Some s) h = h

pub counted_source : {T : Type 0} (old new : SourceNode T) (o : Option (Signal T)) → CountsOut source_counted (λ n. false) (λ n i. false) old o new → CountsOut any_counted any_ended any_done (Source old) o (Source new)
counted_source old new None h = tt
counted_source old new (Some (Next x)) h = h
counted_source old new (Some Complete) h = tt
counted_source old new (Some (Error c)) h = tt

pub stepped_source : {T : Type 0} (old new : SourceNode T) → CountsStep source_counted (λ n. false) (λ n i. false) old new → CountsStep any_counted any_ended any_done (Source old) (Source new)
stepped_source old new h = record { stays_ended = h.stays_ended; counts = h.counts; stays_done = h.stays_done }

pub counted_several : {T : Type 0} (old new : SeveralNode T) (o : Option (Signal T)) → CountsOut several_counted several_ended several_done old o new → CountsOut any_counted any_ended any_done (Several old) o (Several new)
counted_several old new None h = tt
counted_several old new (Some (Next x)) h = h
counted_several old new (Some Complete) h = tt
counted_several old new (Some (Error c)) h = tt

pub counted_publish_on : {T : Type 0} (old new : PublishOnNode T) (o : Option (Signal T)) → CountsOut publish_counted publish_ended (λ n i. false) old o new → CountsOut any_counted any_ended any_done (PublishOn old) o (PublishOn new)
counted_publish_on old new None h = tt
counted_publish_on old new (Some (Next x)) h = h
counted_publish_on old new (Some Complete) h = tt
counted_publish_on old new (Some (Error c)) h = tt

pub counted_publish_on_eager : {T : Type 0} (old new : PublishOnEagerNode T) (o : Option (Signal T)) → CountsOut IsEagerCounted eager_ended eager_done old o new → CountsOut any_counted any_ended any_done (PublishOnEager old) o (PublishOnEager new)
counted_publish_on_eager old new None h = tt
counted_publish_on_eager old new (Some (Next x)) h = h
counted_publish_on_eager old new (Some Complete) h = tt
counted_publish_on_eager old new (Some (Error c)) h = tt

pub counted_window : {T : Type 0} (old new : WindowNode T) (o : Option (Signal T)) → CountsOut CountsItems window_ended window_done old o new → CountsOut any_counted any_ended any_done (Window old) o (Window new)
counted_window old new None h = tt
counted_window old new (Some (Next x)) h = h
counted_window old new (Some Complete) h = tt
counted_window old new (Some (Error c)) h = tt

pub counted_flat_map : {T : Type 0} (old new : FlatMapNode T) (o : Option (Signal T)) → CountsOut IsGoing flat_ended flat_done old o new → CountsOut any_counted any_ended any_done (FlatMap old) o (FlatMap new)
counted_flat_map old new None h = tt
counted_flat_map old new (Some (Next x)) h = h
counted_flat_map old new (Some Complete) h = tt
counted_flat_map old new (Some (Error c)) h = tt

pub counted_flat_map_delay : {T : Type 0} (old new : FlatMapDelayNode T) (o : Option (Signal T)) → CountsOut flat_delay_counted flat_delay_ended flat_delay_done old o new → CountsOut any_counted any_ended any_done (FlatMapDelay old) o (FlatMapDelay new)
counted_flat_map_delay old new None h = tt
counted_flat_map_delay old new (Some (Next x)) h = h
counted_flat_map_delay old new (Some Complete) h = tt
counted_flat_map_delay old new (Some (Error c)) h = tt

pub counted_group_by : {T : Type 0} (old new : GroupByNode T) (o : Option (Signal T)) → CountsOut group_counted group_ended group_done old o new → CountsOut any_counted any_ended any_done (GroupBy old) o (GroupBy new)
counted_group_by old new None h = tt
counted_group_by old new (Some (Next x)) h = h
counted_group_by old new (Some Complete) h = tt
counted_group_by old new (Some (Error c)) h = tt

pub taken_plain : {T : Type 0} (old new : PlainNode T) (i : ℕ) (s : Signal T) → CountsIn plain_counted plain_ended (λ n j. false) old i s new → CountsIn any_counted any_ended any_done (Plain old) i s (Plain new)
taken_plain old new i s h = record { stays_ended = h.stays_ended; counts = h.counts; stays_done = h.stays_done; is_done = h.is_done }

pub taken_several : {T : Type 0} (old new : SeveralNode T) (i : ℕ) (s : Signal T) → CountsIn several_counted several_ended several_done old i s new → CountsIn any_counted any_ended any_done (Several old) i s (Several new)
taken_several old new i s h = record { stays_ended = h.stays_ended; counts = h.counts; stays_done = h.stays_done; is_done = h.is_done }

pub taken_publish_on : {T : Type 0} (old new : PublishOnNode T) (i : ℕ) (s : Signal T) → CountsIn publish_counted publish_ended (λ n j. false) old i s new → CountsIn any_counted any_ended any_done (PublishOn old) i s (PublishOn new)
taken_publish_on old new i s h = record { stays_ended = h.stays_ended; counts = h.counts; stays_done = h.stays_done; is_done = h.is_done }

pub taken_publish_on_eager : {T : Type 0} (old new : PublishOnEagerNode T) (i : ℕ) (s : Signal T) → CountsIn IsEagerCounted eager_ended eager_done old i s new → CountsIn any_counted any_ended any_done (PublishOnEager old) i s (PublishOnEager new)
taken_publish_on_eager old new i s h = record { stays_ended = h.stays_ended; counts = h.counts; stays_done = h.stays_done; is_done = h.is_done }

pub taken_window : {T : Type 0} (old new : WindowNode T) (i : ℕ) (s : Signal T) → CountsIn CountsItems window_ended window_done old i s new → CountsIn any_counted any_ended any_done (Window old) i s (Window new)
taken_window old new i s h = record { stays_ended = h.stays_ended; counts = h.counts; stays_done = h.stays_done; is_done = h.is_done }

pub taken_flat_map : {T : Type 0} (old new : FlatMapNode T) (i : ℕ) (s : Signal T) → CountsIn IsGoing flat_ended flat_done old i s new → CountsIn any_counted any_ended any_done (FlatMap old) i s (FlatMap new)
taken_flat_map old new i s h = record { stays_ended = h.stays_ended; counts = h.counts; stays_done = h.stays_done; is_done = h.is_done }

pub taken_flat_map_delay : {T : Type 0} (old new : FlatMapDelayNode T) (i : ℕ) (s : Signal T) → CountsIn flat_delay_counted flat_delay_ended flat_delay_done old i s new → CountsIn any_counted any_ended any_done (FlatMapDelay old) i s (FlatMapDelay new)
taken_flat_map_delay old new i s h = record { stays_ended = h.stays_ended; counts = h.counts; stays_done = h.stays_done; is_done = h.is_done }

pub taken_group_by : {T : Type 0} (old new : GroupByNode T) (i : ℕ) (s : Signal T) → CountsIn group_counted group_ended group_done old i s new → CountsIn any_counted any_ended any_done (GroupBy old) i s (GroupBy new)
taken_group_by old new i s h = record { stays_ended = h.stays_ended; counts = h.counts; stays_done = h.stays_done; is_done = h.is_done }

pub stepped_several : {T : Type 0} (old new : SeveralNode T) → CountsStep several_counted several_ended several_done old new → CountsStep any_counted any_ended any_done (Several old) (Several new)
stepped_several old new h = record { stays_ended = h.stays_ended; counts = h.counts; stays_done = h.stays_done }

pub stepped_flat_map : {T : Type 0} (old new : FlatMapNode T) → CountsStep IsGoing flat_ended flat_done old new → CountsStep any_counted any_ended any_done (FlatMap old) (FlatMap new)
stepped_flat_map old new h = record { stays_ended = h.stays_ended; counts = h.counts; stays_done = h.stays_done }

pub stepped_flat_map_delay : {T : Type 0} (old new : FlatMapDelayNode T) → CountsStep flat_delay_counted flat_delay_ended flat_delay_done old new → CountsStep any_counted any_ended any_done (FlatMapDelay old) (FlatMapDelay new)
stepped_flat_map_delay old new h = record { stays_ended = h.stays_ended; counts = h.counts; stays_done = h.stays_done }

pub stepped_publish_on_eager : {T : Type 0} (old new : PublishOnEagerNode T) → CountsStep IsEagerCounted eager_ended eager_done old new → CountsStep any_counted any_ended any_done (PublishOnEager old) (PublishOnEager new)
stepped_publish_on_eager old new h = record { stays_ended = h.stays_ended; counts = h.counts; stays_done = h.stays_done }

pub stepped_group_by : {T : Type 0} (old new : GroupByNode T) → CountsStep group_counted group_ended group_done old new → CountsStep any_counted any_ended any_done (GroupBy old) (GroupBy new)
stepped_group_by old new h = record { stays_ended = h.stays_ended; counts = h.counts; stays_done = h.stays_done }

pub returned_plain : {T : Type 0} (before : AnyNode T) (s : Signal T) (n n' : PlainNode T) → any_popped before s (Plain n) → ((b : PlainNode T) → plain_popped b s n → n' ≡ b) → Plain n' ≡ before
returned_plain (Plain a) s n n' h k = ap Plain (k a h)
returned_plain before s n n' h k = absurd h

pub returned_source : {T : Type 0} (before : AnyNode T) (s : Signal T) (n n' : SourceNode T) → any_popped before s (Source n) → ((b : SourceNode T) → source_popped b s n → n' ≡ b) → Source n' ≡ before
returned_source (Source a) s n n' h k = ap Source (k a h)
returned_source before s n n' h k = absurd h

pub returned_several : {T : Type 0} (before : AnyNode T) (s : Signal T) (n n' : SeveralNode T) → any_popped before s (Several n) → ((b : SeveralNode T) → several_popped b s n → n' ≡ b) → Several n' ≡ before
returned_several (Several a) s n n' h k = ap Several (k a h)
returned_several before s n n' h k = absurd h

pub returned_publish_on : {T : Type 0} (before : AnyNode T) (s : Signal T) (n n' : PublishOnNode T) → any_popped before s (PublishOn n) → ((b : PublishOnNode T) → publish_popped b s n → n' ≡ b) → PublishOn n' ≡ before
returned_publish_on (PublishOn a) s n n' h k = ap PublishOn (k a h)
returned_publish_on before s n n' h k = absurd h

pub returned_publish_on_eager : {T : Type 0} (before : AnyNode T) (s : Signal T) (n n' : PublishOnEagerNode T) → any_popped before s (PublishOnEager n) → ((b : PublishOnEagerNode T) → eager_popped b s n → n' ≡ b) → PublishOnEager n' ≡ before
returned_publish_on_eager (PublishOnEager a) s n n' h k = ap PublishOnEager (k a h)
returned_publish_on_eager before s n n' h k = absurd h

pub returned_window : {T : Type 0} (before : AnyNode T) (s : Signal T) (n n' : WindowNode T) → any_popped before s (Window n) → ((b : WindowNode T) → IsPoppedWindow b s n → n' ≡ b) → Window n' ≡ before
returned_window (Window a) s n n' h k = ap Window (k a h)
returned_window before s n n' h k = absurd h

pub returned_flat_map : {T : Type 0} (before : AnyNode T) (s : Signal T) (n n' : FlatMapNode T) → any_popped before s (FlatMap n) → ((b : FlatMapNode T) → flat_popped b s n → n' ≡ b) → FlatMap n' ≡ before
returned_flat_map (FlatMap a) s n n' h k = ap FlatMap (k a h)
returned_flat_map before s n n' h k = absurd h

pub returned_flat_map_delay : {T : Type 0} (before : AnyNode T) (s : Signal T) (n n' : FlatMapDelayNode T) → any_popped before s (FlatMapDelay n) → ((b : FlatMapDelayNode T) → flat_delay_popped b s n → n' ≡ b) → FlatMapDelay n' ≡ before
returned_flat_map_delay (FlatMapDelay a) s n n' h k = ap FlatMapDelay (k a h)
returned_flat_map_delay before s n n' h k = absurd h

pub returned_group_by : {T : Type 0} (before : AnyNode T) (s : Signal T) (n n' : GroupByNode T) → any_popped before s (GroupBy n) → ((b : GroupByNode T) → IsPoppedGroup b s n → n' ≡ b) → GroupBy n' ≡ before
returned_group_by (GroupBy a) s n n' h k = ap GroupBy (k a h)
returned_group_by before s n n' h k = absurd h

-- ---- an item that goes through in one go

abbrev pub IsOutAny : {T : Type 0} → Meaning T → AnyNode T → T → AnyNode T → Type 0
IsOutAny m old x new = IsItemOut (any_comes_out m) (any_waiting m) any_popped any_recorded any_counted any_ended any_done old x new

out_source : {T : Type 0} (m : Meaning T) (old new : SourceNode T) (x : T) → IsItemOut (source_comes_out m) (source_waiting m) source_popped (λ n. Nothing) source_counted (λ n. false) (λ n i. false) old x new → IsOutAny m (Source old) x (Source new)
out_source m old new x h = record { waited = h.waited; popped_out = h.popped_out; value = h.value; notes = h.notes; counts = h.counts }

out_plain : {T : Type 0} (m : Meaning T) (old new : PlainNode T) (x : T) → IsItemOut (plain_comes_out m) (plain_waiting m) plain_popped (λ n. Nothing) plain_counted plain_ended (λ n i. false) old x new → IsOutAny m (Plain old) x (Plain new)
out_plain m old new x h = record { waited = h.waited; popped_out = h.popped_out; value = h.value; notes = h.notes; counts = h.counts }

pub item_out_source : {T : Type 0} (m : Meaning T) (old new : SourceNode T) (o : Option T) → IfSome o (λ x. IsItemOut (source_comes_out m) (source_waiting m) source_popped (λ n. Nothing) source_counted (λ n. false) (λ n i. false) old x new) → IfSome o (λ x. IsOutAny m (Source old) x (Source new))
item_out_source m old new None h = h
item_out_source m old new (Some x) h = out_source m old new x h

pub item_out_plain : {T : Type 0} (m : Meaning T) (old new : PlainNode T) (o : Option T) → IfSome o (λ x. IsItemOut (plain_comes_out m) (plain_waiting m) plain_popped (λ n. Nothing) plain_counted plain_ended (λ n i. false) old x new) → IfSome o (λ x. IsOutAny m (Plain old) x (Plain new))
item_out_plain m old new None h = h
item_out_plain m old new (Some x) h = out_plain m old new x h

pub item_out_several : {T : Type 0} (m : Meaning T) (old new : SeveralNode T) (o : Option T) → IfSome o (λ x. IsItemOut (several_comes_out m) (several_waiting m) several_popped several_recorded several_counted several_ended several_done old x new) → IfSome o (λ x. IsOutAny m (Several old) x (Several new))
item_out_several m old new None h = h
item_out_several m old new (Some x) h = record { waited = h.waited; popped_out = h.popped_out; value = h.value; notes = h.notes; counts = h.counts }

in_plain : {T : Type 0} (m : Meaning T) (old new : PlainNode T) (i : ℕ) (s : Signal T) → IsTakenIn (plain_comes_out m) (λ n j f. plain_takes n j) (λ n. Nothing) plain_counted plain_ended (λ n j. false) old i s new →
    IsTakenIn (any_comes_out m) any_takes any_recorded any_counted any_ended any_done (Plain old) i s (Plain new)
in_plain m old new i s h = record { enabled = h.enabled; value = h.value; notes = h.notes; counts = taken_plain old new i s h.counts; goes_on = h.goes_on }

pub passed_plain : {T : Type 0} (m : Meaning T) (old new : PlainNode T) (i : ℕ) (x : T) (r : Passed T) → IsPassed (plain_comes_out m) (plain_waiting m) (λ n j f. plain_takes n j) plain_popped (λ n. Nothing) plain_counted plain_ended (λ n j. false) old i x r new →
    IsPassed (any_comes_out m) (any_waiting m) any_takes any_popped any_recorded any_counted any_ended any_done (Plain old) i x r (Plain new)
passed_plain m old new i x (Item y) h = (Plain h.0, in_plain m old h.0 i (Next x) h.1, out_plain m h.0 new y h.2)
passed_plain m old new i x Kept h = in_plain m old new i (Next x) h
passed_plain m old new i x (Declined y) h = (h.0, ap Plain h.1)

in_several : {T : Type 0} (m : Meaning T) (old new : SeveralNode T) (i : ℕ) (s : Signal T) → IsTakenIn (several_comes_out m) several_takes several_recorded several_counted several_ended several_done old i s new →
    IsTakenIn (any_comes_out m) any_takes any_recorded any_counted any_ended any_done (Several old) i s (Several new)
in_several m old new i s h = record { enabled = h.enabled; value = h.value; notes = h.notes; counts = taken_several old new i s h.counts; goes_on = h.goes_on }

pub passed_several : {T : Type 0} (m : Meaning T) (old new : SeveralNode T) (i : ℕ) (x : T) (r : Passed T) → IsPassed (several_comes_out m) (several_waiting m) several_takes several_popped several_recorded several_counted several_ended several_done old i x r new →
    IsPassed (any_comes_out m) (any_waiting m) any_takes any_popped any_recorded any_counted any_ended any_done (Several old) i x r (Several new)
passed_several m old new i x (Item y) h = (Several h.0, in_several m old h.0 i (Next x) h.1, item_out_several m h.0 new (Some y) h.2)
passed_several m old new i x Kept h = in_several m old new i (Next x) h
passed_several m old new i x (Declined y) h = (h.0, ap Several h.1)

pub item_out_publish_on : {T : Type 0} (m : Meaning T) (old new : PublishOnNode T) (o : Option T) → IfSome o (λ x. IsItemOut (publish_comes_out m) (publish_waiting m) publish_popped (λ n. Nothing) publish_counted publish_ended (λ n i. false) old x new) → IfSome o (λ x. IsOutAny m (PublishOn old) x (PublishOn new))
item_out_publish_on m old new None h = h
item_out_publish_on m old new (Some x) h = record { waited = h.waited; popped_out = h.popped_out; value = h.value; notes = h.notes; counts = h.counts }

out_publish_on_eager : {T : Type 0} (m : Meaning T) (old new : PublishOnEagerNode T) (x : T) → IsItemOut (eager_comes_out m) (eager_waiting m) eager_popped eager_recorded IsEagerCounted eager_ended eager_done old x new → IsOutAny m (PublishOnEager old) x (PublishOnEager new)
out_publish_on_eager m old new x h = record { waited = h.waited; popped_out = h.popped_out; value = h.value; notes = h.notes; counts = h.counts }

item_recorded_or_not : {T : Type 0} (m : Meaning T) (p : Option Note) (old new : PublishOnEagerNode T) (x : T) → IsItemOutBy (eager_comes_out m) (eager_waiting m) eager_popped eager_recorded IsEagerCounted eager_ended eager_done p old x new →
    IsItemOutBy (any_comes_out m) (any_waiting m) any_popped any_recorded any_counted any_ended any_done p (PublishOnEager old) x (PublishOnEager new)
item_recorded_or_not m None old new x h = out_publish_on_eager m old new x h
item_recorded_or_not m (Some k) old new x h = (noting_publish_on_eager m k (eager_waiting m old) old (Next x) new h.0, counted_publish_on_eager old new (Some (Next x)) h.1)

pub item_out_publish_on_eager : {T : Type 0} (m : Meaning T) (p : Option Note) (old new : PublishOnEagerNode T) (o : Option T) → IfSome o (λ x. IsItemOutBy (eager_comes_out m) (eager_waiting m) eager_popped eager_recorded IsEagerCounted eager_ended eager_done p old x new) →
    IfSome o (λ x. IsItemOutBy (any_comes_out m) (any_waiting m) any_popped any_recorded any_counted any_ended any_done p (PublishOnEager old) x (PublishOnEager new))
item_out_publish_on_eager m p old new None h = h
item_out_publish_on_eager m p old new (Some x) h = item_recorded_or_not m p old new x h

in_publish_on : {T : Type 0} (m : Meaning T) (old new : PublishOnNode T) (i : ℕ) (s : Signal T) → IsTakenIn (publish_comes_out m) publish_takes (λ n. Nothing) publish_counted publish_ended (λ n j. false) old i s new →
    IsTakenIn (any_comes_out m) any_takes any_recorded any_counted any_ended any_done (PublishOn old) i s (PublishOn new)
in_publish_on m old new i s h = record { enabled = h.enabled; value = h.value; notes = h.notes; counts = taken_publish_on old new i s h.counts; goes_on = h.goes_on }

in_publish_on_eager : {T : Type 0} (m : Meaning T) (old new : PublishOnEagerNode T) (i : ℕ) (s : Signal T) → IsTakenIn (eager_comes_out m) eager_takes eager_recorded IsEagerCounted eager_ended eager_done old i s new →
    IsTakenIn (any_comes_out m) any_takes any_recorded any_counted any_ended any_done (PublishOnEager old) i s (PublishOnEager new)
in_publish_on_eager m old new i s h = record { enabled = h.enabled; value = h.value; notes = h.notes; counts = taken_publish_on_eager old new i s h.counts; goes_on = h.goes_on }

pub passed_publish_on : {T : Type 0} (m : Meaning T) (old new : PublishOnNode T) (i : ℕ) (x : T) (r : Passed T) → IsPassed (publish_comes_out m) (publish_waiting m) publish_takes publish_popped (λ n. Nothing) publish_counted publish_ended (λ n j. false) old i x r new →
    IsPassed (any_comes_out m) (any_waiting m) any_takes any_popped any_recorded any_counted any_ended any_done (PublishOn old) i x r (PublishOn new)
passed_publish_on m old new i x (Item y) h = (PublishOn h.0, in_publish_on m old h.0 i (Next x) h.1, item_out_publish_on m h.0 new (Some y) h.2)
passed_publish_on m old new i x Kept h = in_publish_on m old new i (Next x) h
passed_publish_on m old new i x (Declined y) h = (h.0, ap PublishOn h.1)

pub passed_publish_on_eager : {T : Type 0} (m : Meaning T) (old new : PublishOnEagerNode T) (i : ℕ) (x : T) (r : Passed T) → IsPassed (eager_comes_out m) (eager_waiting m) eager_takes eager_popped eager_recorded IsEagerCounted eager_ended eager_done old i x r new →
    IsPassed (any_comes_out m) (any_waiting m) any_takes any_popped any_recorded any_counted any_ended any_done (PublishOnEager old) i x r (PublishOnEager new)
passed_publish_on_eager m old new i x (Item y) h = (PublishOnEager h.0, in_publish_on_eager m old h.0 i (Next x) h.1, out_publish_on_eager m h.0 new y h.2)
passed_publish_on_eager m old new i x Kept h = in_publish_on_eager m old new i (Next x) h
passed_publish_on_eager m old new i x (Declined y) h = (h.0, ap PublishOnEager h.1)

pub item_out_window : {T : Type 0} (m : Meaning T) (old new : WindowNode T) (o : Option T) → IfSome o (λ x. IsItemOut (window_comes_out m) (window_waiting m) IsPoppedWindow (λ n. Nothing) CountsItems window_ended window_done old x new) → IfSome o (λ x. IsOutAny m (Window old) x (Window new))
item_out_window m old new None h = h
item_out_window m old new (Some x) h = record { waited = h.waited; popped_out = h.popped_out; value = h.value; notes = h.notes; counts = h.counts }

in_window : {T : Type 0} (m : Meaning T) (old new : WindowNode T) (i : ℕ) (s : Signal T) → IsTakenIn (window_comes_out m) (λ n j f. window_takes n j) (λ n. Nothing) CountsItems window_ended window_done old i s new →
    IsTakenIn (any_comes_out m) any_takes any_recorded any_counted any_ended any_done (Window old) i s (Window new)
in_window m old new i s h = record { enabled = h.enabled; value = h.value; notes = h.notes; counts = taken_window old new i s h.counts; goes_on = h.goes_on }

pub passed_window : {T : Type 0} (m : Meaning T) (old new : WindowNode T) (i : ℕ) (x : T) (r : Passed T) → IsPassed (window_comes_out m) (window_waiting m) (λ n j f. window_takes n j) IsPoppedWindow (λ n. Nothing) CountsItems window_ended window_done old i x r new →
    IsPassed (any_comes_out m) (any_waiting m) any_takes any_popped any_recorded any_counted any_ended any_done (Window old) i x r (Window new)
passed_window m old new i x (Item y) h = (Window h.0, in_window m old h.0 i (Next x) h.1, item_out_window m h.0 new (Some y) h.2)
passed_window m old new i x Kept h = in_window m old new i (Next x) h
passed_window m old new i x (Declined y) h = (h.0, ap Window h.1)

pub item_out_flat_map : {T : Type 0} (m : Meaning T) (old new : FlatMapNode T) (o : Option T) → IfSome o (λ x. IsItemOut (flat_comes_out m) (flat_waiting m) flat_popped flat_recorded IsGoing flat_ended flat_done old x new) → IfSome o (λ x. IsOutAny m (FlatMap old) x (FlatMap new))
item_out_flat_map m old new None h = h
item_out_flat_map m old new (Some x) h = record { waited = h.waited; popped_out = h.popped_out; value = h.value; notes = h.notes; counts = h.counts }

pub item_out_flat_map_delay : {T : Type 0} (m : Meaning T) (old new : FlatMapDelayNode T) (o : Option T) → IfSome o (λ x. IsItemOut (flat_delay_comes_out m) (flat_delay_waiting m) flat_delay_popped flat_delay_recorded flat_delay_counted flat_delay_ended flat_delay_done old x new) → IfSome o (λ x. IsOutAny m (FlatMapDelay old) x (FlatMapDelay new))
item_out_flat_map_delay m old new None h = h
item_out_flat_map_delay m old new (Some x) h = record { waited = h.waited; popped_out = h.popped_out; value = h.value; notes = h.notes; counts = h.counts }

pub item_out_group_by : {T : Type 0} (m : Meaning T) (old new : GroupByNode T) (o : Option T) → IfSome o (λ x. IsItemOut (group_comes_out m) (group_waiting m) IsPoppedGroup group_recorded group_counted group_ended group_done old x new) → IfSome o (λ x. IsOutAny m (GroupBy old) x (GroupBy new))
item_out_group_by m old new None h = h
item_out_group_by m old new (Some x) h = record { waited = h.waited; popped_out = h.popped_out; value = h.value; notes = h.notes; counts = h.counts }

in_flat_map : {T : Type 0} (m : Meaning T) (old new : FlatMapNode T) (i : ℕ) (s : Signal T) → IsTakenIn (flat_comes_out m) flat_takes flat_recorded IsGoing flat_ended flat_done old i s new →
    IsTakenIn (any_comes_out m) any_takes any_recorded any_counted any_ended any_done (FlatMap old) i s (FlatMap new)
in_flat_map m old new i s h = record { enabled = h.enabled; value = h.value; notes = h.notes; counts = taken_flat_map old new i s h.counts; goes_on = h.goes_on }

in_flat_map_delay : {T : Type 0} (m : Meaning T) (old new : FlatMapDelayNode T) (i : ℕ) (s : Signal T) → IsTakenIn (flat_delay_comes_out m) flat_delay_takes flat_delay_recorded flat_delay_counted flat_delay_ended flat_delay_done old i s new →
    IsTakenIn (any_comes_out m) any_takes any_recorded any_counted any_ended any_done (FlatMapDelay old) i s (FlatMapDelay new)
in_flat_map_delay m old new i s h = record { enabled = h.enabled; value = h.value; notes = h.notes; counts = taken_flat_map_delay old new i s h.counts; goes_on = h.goes_on }

in_group_by : {T : Type 0} (m : Meaning T) (old new : GroupByNode T) (i : ℕ) (s : Signal T) → IsTakenIn (group_comes_out m) (λ n j f. group_takes n j) group_recorded group_counted group_ended group_done old i s new →
    IsTakenIn (any_comes_out m) any_takes any_recorded any_counted any_ended any_done (GroupBy old) i s (GroupBy new)
in_group_by m old new i s h = record { enabled = h.enabled; value = h.value; notes = h.notes; counts = taken_group_by old new i s h.counts; goes_on = h.goes_on }

pub passed_flat_map : {T : Type 0} (m : Meaning T) (old new : FlatMapNode T) (i : ℕ) (x : T) (r : Passed T) → IsPassed (flat_comes_out m) (flat_waiting m) flat_takes flat_popped flat_recorded IsGoing flat_ended flat_done old i x r new →
    IsPassed (any_comes_out m) (any_waiting m) any_takes any_popped any_recorded any_counted any_ended any_done (FlatMap old) i x r (FlatMap new)
passed_flat_map m old new i x (Item y) h = (FlatMap h.0, in_flat_map m old h.0 i (Next x) h.1, item_out_flat_map m h.0 new (Some y) h.2)
passed_flat_map m old new i x Kept h = in_flat_map m old new i (Next x) h
passed_flat_map m old new i x (Declined y) h = (h.0, ap FlatMap h.1)

pub passed_flat_map_delay : {T : Type 0} (m : Meaning T) (old new : FlatMapDelayNode T) (i : ℕ) (x : T) (r : Passed T) → IsPassed (flat_delay_comes_out m) (flat_delay_waiting m) flat_delay_takes flat_delay_popped flat_delay_recorded flat_delay_counted flat_delay_ended flat_delay_done old i x r new →
    IsPassed (any_comes_out m) (any_waiting m) any_takes any_popped any_recorded any_counted any_ended any_done (FlatMapDelay old) i x r (FlatMapDelay new)
passed_flat_map_delay m old new i x (Item y) h = (FlatMapDelay h.0, in_flat_map_delay m old h.0 i (Next x) h.1, item_out_flat_map_delay m h.0 new (Some y) h.2)
passed_flat_map_delay m old new i x Kept h = in_flat_map_delay m old new i (Next x) h
passed_flat_map_delay m old new i x (Declined y) h = (h.0, ap FlatMapDelay h.1)

pub passed_group_by : {T : Type 0} (m : Meaning T) (old new : GroupByNode T) (i : ℕ) (x : T) (r : Passed T) → IsPassed (group_comes_out m) (group_waiting m) (λ n j f. group_takes n j) IsPoppedGroup group_recorded group_counted group_ended group_done old i x r new →
    IsPassed (any_comes_out m) (any_waiting m) any_takes any_popped any_recorded any_counted any_ended any_done (GroupBy old) i x r (GroupBy new)
passed_group_by m old new i x (Item y) h = (GroupBy h.0, in_group_by m old h.0 i (Next x) h.1, item_out_group_by m h.0 new (Some y) h.2)
passed_group_by m old new i x Kept h = in_group_by m old new i (Next x) h
passed_group_by m old new i x (Declined y) h = (h.0, ap GroupBy h.1)
