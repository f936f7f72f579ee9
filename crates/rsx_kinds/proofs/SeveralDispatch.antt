-- A node of several inputs moves as its kind does.
use Rattle.std.specs.Prelude.{IfSome}
use Rattle.std.proofs.Common.{◌≡◌, ap, ℕ, Option, Some, None}
use Rattle.rsx_sources.specs.Prelude.{Meaning, Nothing, Signal, Next, CountsIn, CountsStep, IsItemOut, IsPassed, IsTakenIn}
use Rattle.rsx_kinds.specs.Prelude.{Declined, Item, Kept, Passed, SeveralNode, several_comes_out, several_counted, several_done, several_ended, several_popped, several_recorded, several_takes, several_waiting}
use Rattle.rsx_merging.specs.declared.concat_node.ConcatNode.{ConcatNode}
use Rattle.rsx_merging.specs.Concat.{concat_comes_out, concat_waiting, concat_takes, concat_popped, concat_ended, concat_done, IsInTurn}
use Rattle.rsx_merging.specs.declared.merge_node.MergeNode.{MergeNode}
use Rattle.rsx_merging.specs.Merge.{merge_comes_out, merge_waiting, merge_takes, merge_popped, merge_recorded, merge_ended, merge_done, merge_counted}
use Rattle.rsx_delayed.specs.declared.merge_delay_node.MergeDelayNode.{MergeDelayNode}
use Rattle.rsx_delayed.specs.MergeDelay.{delayed_comes_out, delayed_waiting, delayed_takes, delayed_popped, delayed_recorded, delayed_ended, delayed_done, delayed_counted}
use Rattle.rsx_combining.specs.Zip.{ZipState, zip_comes_out, zip_waiting, zip_takes, zip_popped, zip_recorded, zip_ended, zip_done, IsZipCounted}
use Rattle.rsx_combining.specs.Latest.{LatestState, latest_comes_out, latest_waiting, latest_takes, latest_popped, latest_recorded, latest_ended, latest_done, IsLatestCounted}
use Rattle.rsx_kinds.specs.declared.several_node.SeveralNode.TheVariants.{Concat, Merge, MergeDelay, Zip, Latest}

-- ---- the signal that waited goes out

abbrev pub IsOutSeveral : {T : Type 0} → Meaning T → SeveralNode T → T → SeveralNode T → Type 0
IsOutSeveral m old x new = IsItemOut (several_comes_out m) (several_waiting m) several_popped several_recorded several_counted several_ended several_done old x new

pub item_out_concat : {T : Type 0} (m : Meaning T) (old new : ConcatNode T) (o : Option T) → IfSome o (λ x. IsItemOut (concat_comes_out m) (concat_waiting m) concat_popped (λ n. Nothing) IsInTurn concat_ended concat_done old x new) → IfSome o (λ x. IsOutSeveral m (Concat old) x (Concat new))
item_out_concat m old new None h = h
item_out_concat m old new (Some x) h = record { waited = h.waited; popped_out = h.popped_out; value = h.value; notes = h.notes; counts = h.counts }

pub item_out_merge : {T : Type 0} (m : Meaning T) (old new : MergeNode T) (o : Option T) → IfSome o (λ x. IsItemOut (merge_comes_out m) (merge_waiting m) merge_popped merge_recorded merge_counted merge_ended merge_done old x new) → IfSome o (λ x. IsOutSeveral m (Merge old) x (Merge new))
item_out_merge m old new None h = h
item_out_merge m old new (Some x) h = record { waited = h.waited; popped_out = h.popped_out; value = h.value; notes = h.notes; counts = h.counts }

pub item_out_merge_delay : {T : Type 0} (m : Meaning T) (old new : MergeDelayNode T) (o : Option T) → IfSome o (λ x. IsItemOut (delayed_comes_out m) (delayed_waiting m) delayed_popped delayed_recorded delayed_counted delayed_ended delayed_done old x new) → IfSome o (λ x. IsOutSeveral m (MergeDelay old) x (MergeDelay new))
item_out_merge_delay m old new None h = h
item_out_merge_delay m old new (Some x) h = record { waited = h.waited; popped_out = h.popped_out; value = h.value; notes = h.notes; counts = h.counts }

pub item_out_zip : {T : Type 0} (m : Meaning T) (old new : ZipState T) (o : Option T) → IfSome o (λ x. IsItemOut (zip_comes_out m) (zip_waiting m) zip_popped zip_recorded IsZipCounted zip_ended zip_done old x new) → IfSome o (λ x. IsOutSeveral m (Zip old) x (Zip new))
item_out_zip m old new None h = h
item_out_zip m old new (Some x) h = record { waited = h.waited; popped_out = h.popped_out; value = h.value; notes = h.notes; counts = h.counts }

pub item_out_latest : {T : Type 0} (m : Meaning T) (old new : LatestState T) (o : Option T) → IfSome o (λ x. IsItemOut (latest_comes_out m) (latest_waiting m) latest_popped latest_recorded IsLatestCounted latest_ended latest_done old x new) → IfSome o (λ x. IsOutSeveral m (Latest old) x (Latest new))
item_out_latest m old new None h = h
item_out_latest m old new (Some x) h = record { waited = h.waited; popped_out = h.popped_out; value = h.value; notes = h.notes; counts = h.counts }

-- ---- a signal comes back

pub returned_concat : {T : Type 0} (before : SeveralNode T) (s : Signal T) (n n' : ConcatNode T) → several_popped before s (Concat n) → ((b : ConcatNode T) → concat_popped b s n → n' ≡ b) → Concat n' ≡ before
returned_concat (Concat a) s n n' h f = ap Concat (f a h)
returned_concat (Merge a) s n n' h f = absurd h
returned_concat (MergeDelay a) s n n' h f = absurd h
returned_concat (Zip a) s n n' h f = absurd h
returned_concat (Latest a) s n n' h f = absurd h

pub returned_merge : {T : Type 0} (before : SeveralNode T) (s : Signal T) (n n' : MergeNode T) → several_popped before s (Merge n) → ((b : MergeNode T) → merge_popped b s n → n' ≡ b) → Merge n' ≡ before
returned_merge (Concat a) s n n' h f = absurd h
returned_merge (Merge a) s n n' h f = ap Merge (f a h)
returned_merge (MergeDelay a) s n n' h f = absurd h
returned_merge (Zip a) s n n' h f = absurd h
returned_merge (Latest a) s n n' h f = absurd h

pub returned_merge_delay : {T : Type 0} (before : SeveralNode T) (s : Signal T) (n n' : MergeDelayNode T) → several_popped before s (MergeDelay n) → ((b : MergeDelayNode T) → delayed_popped b s n → n' ≡ b) → MergeDelay n' ≡ before
returned_merge_delay (Concat a) s n n' h f = absurd h
returned_merge_delay (Merge a) s n n' h f = absurd h
returned_merge_delay (MergeDelay a) s n n' h f = ap MergeDelay (f a h)
returned_merge_delay (Zip a) s n n' h f = absurd h
returned_merge_delay (Latest a) s n n' h f = absurd h

pub returned_zip : {T : Type 0} (before : SeveralNode T) (s : Signal T) (n n' : ZipState T) → several_popped before s (Zip n) → ((b : ZipState T) → zip_popped b s n → n' ≡ b) → Zip n' ≡ before
returned_zip (Concat a) s n n' h f = absurd h
returned_zip (Merge a) s n n' h f = absurd h
returned_zip (MergeDelay a) s n n' h f = absurd h
returned_zip (Zip a) s n n' h f = ap Zip (f a h)
returned_zip (Latest a) s n n' h f = absurd h

pub returned_latest : {T : Type 0} (before : SeveralNode T) (s : Signal T) (n n' : LatestState T) → several_popped before s (Latest n) → ((b : LatestState T) → latest_popped b s n → n' ≡ b) → Latest n' ≡ before
returned_latest (Concat a) s n n' h f = absurd h
returned_latest (Merge a) s n n' h f = absurd h
returned_latest (MergeDelay a) s n n' h f = absurd h
returned_latest (Zip a) s n n' h f = absurd h
returned_latest (Latest a) s n n' h f = ap Latest (f a h)

-- ---- a signal comes in, or the node moves

pub taken_concat : {T : Type 0} (old new : ConcatNode T) (i : ℕ) (s : Signal T) → CountsIn IsInTurn concat_ended concat_done old i s new → CountsIn several_counted several_ended several_done (Concat old) i s (Concat new)
taken_concat old new i s h = record { stays_ended = h.stays_ended; counts = h.counts; stays_done = h.stays_done; is_done = h.is_done }

pub taken_merge : {T : Type 0} (old new : MergeNode T) (i : ℕ) (s : Signal T) → CountsIn merge_counted merge_ended merge_done old i s new → CountsIn several_counted several_ended several_done (Merge old) i s (Merge new)
taken_merge old new i s h = record { stays_ended = h.stays_ended; counts = h.counts; stays_done = h.stays_done; is_done = h.is_done }

pub taken_merge_delay : {T : Type 0} (old new : MergeDelayNode T) (i : ℕ) (s : Signal T) → CountsIn delayed_counted delayed_ended delayed_done old i s new → CountsIn several_counted several_ended several_done (MergeDelay old) i s (MergeDelay new)
taken_merge_delay old new i s h = record { stays_ended = h.stays_ended; counts = h.counts; stays_done = h.stays_done; is_done = h.is_done }

pub taken_zip : {T : Type 0} (old new : ZipState T) (i : ℕ) (s : Signal T) → CountsIn IsZipCounted zip_ended zip_done old i s new → CountsIn several_counted several_ended several_done (Zip old) i s (Zip new)
taken_zip old new i s h = record { stays_ended = h.stays_ended; counts = h.counts; stays_done = h.stays_done; is_done = h.is_done }

pub taken_latest : {T : Type 0} (old new : LatestState T) (i : ℕ) (s : Signal T) → CountsIn IsLatestCounted latest_ended latest_done old i s new → CountsIn several_counted several_ended several_done (Latest old) i s (Latest new)
taken_latest old new i s h = record { stays_ended = h.stays_ended; counts = h.counts; stays_done = h.stays_done; is_done = h.is_done }

pub stepped_merge : {T : Type 0} (old new : MergeNode T) → CountsStep merge_counted merge_ended merge_done old new → CountsStep several_counted several_ended several_done (Merge old) (Merge new)
stepped_merge old new h = record { stays_ended = h.stays_ended; counts = h.counts; stays_done = h.stays_done }

pub stepped_merge_delay : {T : Type 0} (old new : MergeDelayNode T) → CountsStep delayed_counted delayed_ended delayed_done old new → CountsStep several_counted several_ended several_done (MergeDelay old) (MergeDelay new)
stepped_merge_delay old new h = record { stays_ended = h.stays_ended; counts = h.counts; stays_done = h.stays_done }

pub stepped_zip : {T : Type 0} (old new : ZipState T) → CountsStep IsZipCounted zip_ended zip_done old new → CountsStep several_counted several_ended several_done (Zip old) (Zip new)
stepped_zip old new h = record { stays_ended = h.stays_ended; counts = h.counts; stays_done = h.stays_done }

pub stepped_latest : {T : Type 0} (old new : LatestState T) → CountsStep IsLatestCounted latest_ended latest_done old new → CountsStep several_counted several_ended several_done (Latest old) (Latest new)
stepped_latest old new h = record { stays_ended = h.stays_ended; counts = h.counts; stays_done = h.stays_done }

-- ---- an item goes through in one go

abbrev pub IsPassedSeveral : {T : Type 0} → Meaning T → SeveralNode T → ℕ → T → Passed T → SeveralNode T → Type 0
IsPassedSeveral m old i x r new = IsPassed (several_comes_out m) (several_waiting m) several_takes several_popped several_recorded several_counted several_ended several_done old i x r new

taken_in_concat : {T : Type 0} (m : Meaning T) (old new : ConcatNode T) (i : ℕ) (x : T) → IsTakenIn (concat_comes_out m) concat_takes (λ n. Nothing) IsInTurn concat_ended concat_done old i (Next x) new → IsTakenIn (several_comes_out m) several_takes several_recorded several_counted several_ended several_done (Concat old) i (Next x) (Concat new)
taken_in_concat m old new i x h = record { enabled = h.enabled; value = h.value; notes = h.notes; counts = taken_concat old new i (Next x) h.counts; goes_on = h.goes_on }

pub passed_concat : {T : Type 0} (m : Meaning T) (old new : ConcatNode T) (i : ℕ) (x : T) (r : Passed T) → IsPassed (concat_comes_out m) (concat_waiting m) concat_takes concat_popped (λ n. Nothing) IsInTurn concat_ended concat_done old i x r new → IsPassedSeveral m (Concat old) i x r (Concat new)
passed_concat m old new i x (Item y) h = (Concat h.0, taken_in_concat m old h.0 i x h.1, item_out_concat m h.0 new (Some y) h.2)
passed_concat m old new i x Kept h = taken_in_concat m old new i x h
passed_concat m old new i x (Declined y) h = (h.0, ap Concat h.1)

taken_in_merge : {T : Type 0} (m : Meaning T) (old new : MergeNode T) (i : ℕ) (x : T) → IsTakenIn (merge_comes_out m) merge_takes merge_recorded merge_counted merge_ended merge_done old i (Next x) new → IsTakenIn (several_comes_out m) several_takes several_recorded several_counted several_ended several_done (Merge old) i (Next x) (Merge new)
taken_in_merge m old new i x h = record { enabled = h.enabled; value = h.value; notes = h.notes; counts = taken_merge old new i (Next x) h.counts; goes_on = h.goes_on }

taken_in_merge_delay : {T : Type 0} (m : Meaning T) (old new : MergeDelayNode T) (i : ℕ) (x : T) → IsTakenIn (delayed_comes_out m) delayed_takes delayed_recorded delayed_counted delayed_ended delayed_done old i (Next x) new → IsTakenIn (several_comes_out m) several_takes several_recorded several_counted several_ended several_done (MergeDelay old) i (Next x) (MergeDelay new)
taken_in_merge_delay m old new i x h = record { enabled = h.enabled; value = h.value; notes = h.notes; counts = taken_merge_delay old new i (Next x) h.counts; goes_on = h.goes_on }

pub passed_merge : {T : Type 0} (m : Meaning T) (old new : MergeNode T) (i : ℕ) (x : T) (r : Passed T) → IsPassed (merge_comes_out m) (merge_waiting m) merge_takes merge_popped merge_recorded merge_counted merge_ended merge_done old i x r new → IsPassedSeveral m (Merge old) i x r (Merge new)
passed_merge m old new i x (Item y) h = (Merge h.0, taken_in_merge m old h.0 i x h.1, item_out_merge m h.0 new (Some y) h.2)
passed_merge m old new i x Kept h = taken_in_merge m old new i x h
passed_merge m old new i x (Declined y) h = (h.0, ap Merge h.1)

pub passed_merge_delay : {T : Type 0} (m : Meaning T) (old new : MergeDelayNode T) (i : ℕ) (x : T) (r : Passed T) → IsPassed (delayed_comes_out m) (delayed_waiting m) delayed_takes delayed_popped delayed_recorded delayed_counted delayed_ended delayed_done old i x r new → IsPassedSeveral m (MergeDelay old) i x r (MergeDelay new)
passed_merge_delay m old new i x (Item y) h = (MergeDelay h.0, taken_in_merge_delay m old h.0 i x h.1, item_out_merge_delay m h.0 new (Some y) h.2)
passed_merge_delay m old new i x Kept h = taken_in_merge_delay m old new i x h
passed_merge_delay m old new i x (Declined y) h = (h.0, ap MergeDelay h.1)

taken_in_zip : {T : Type 0} (m : Meaning T) (old new : ZipState T) (i : ℕ) (x : T) → IsTakenIn (zip_comes_out m) zip_takes zip_recorded IsZipCounted zip_ended zip_done old i (Next x) new → IsTakenIn (several_comes_out m) several_takes several_recorded several_counted several_ended several_done (Zip old) i (Next x) (Zip new)
taken_in_zip m old new i x h = record { enabled = h.enabled; value = h.value; notes = h.notes; counts = taken_zip old new i (Next x) h.counts; goes_on = h.goes_on }

pub passed_zip : {T : Type 0} (m : Meaning T) (old new : ZipState T) (i : ℕ) (x : T) (r : Passed T) → IsPassed (zip_comes_out m) (zip_waiting m) zip_takes zip_popped zip_recorded IsZipCounted zip_ended zip_done old i x r new → IsPassedSeveral m (Zip old) i x r (Zip new)
passed_zip m old new i x (Item y) h = (Zip h.0, taken_in_zip m old h.0 i x h.1, item_out_zip m h.0 new (Some y) h.2)
passed_zip m old new i x Kept h = taken_in_zip m old new i x h
passed_zip m old new i x (Declined y) h = (h.0, ap Zip h.1)

taken_in_latest : {T : Type 0} (m : Meaning T) (old new : LatestState T) (i : ℕ) (x : T) → IsTakenIn (latest_comes_out m) latest_takes latest_recorded IsLatestCounted latest_ended latest_done old i (Next x) new → IsTakenIn (several_comes_out m) several_takes several_recorded several_counted several_ended several_done (Latest old) i (Next x) (Latest new)
taken_in_latest m old new i x h = record { enabled = h.enabled; value = h.value; notes = h.notes; counts = taken_latest old new i (Next x) h.counts; goes_on = h.goes_on }

pub passed_latest : {T : Type 0} (m : Meaning T) (old new : LatestState T) (i : ℕ) (x : T) (r : Passed T) → IsPassed (latest_comes_out m) (latest_waiting m) latest_takes latest_popped latest_recorded IsLatestCounted latest_ended latest_done old i x r new → IsPassedSeveral m (Latest old) i x r (Latest new)
passed_latest m old new i x (Item y) h = (Latest h.0, taken_in_latest m old h.0 i x h.1, item_out_latest m h.0 new (Some y) h.2)
passed_latest m old new i x Kept h = taken_in_latest m old new i x h
passed_latest m old new i x (Declined y) h = (h.0, ap Latest h.1)
