-- Rows of a zip, many at once.
use Rattle.std.proofs.Common.{◌≡◌, ℕ, ◌<◌, ◌&&◌, Bool, true, false, nat_lt, List, Some, inl, inr, refl, arith}
use Rattle.std.proofs.lemmas.Bool.Decides.{nat_tests}
use Rattle.rsx_combining.specs.Zip.{IsZipCounted, IsZipRow, ZipState, zip_comes_out, zip_done, zip_ended, zip_picks, zip_recorded, zip_recording, zip_rows}
use Rattle.rsx_combining.specs.Inputs.{all_have_items, is_some_input}
use Rattle.rsx_queued.specs.Prelude.{has_ending, is_empty, out_signal}
use Rattle.rsx_queued.specs.declared.output.Output.{Output}
use Rattle.rsx_queued.specs.declared.output.Output.TheVariants.{Empty, Waiting, Over}
use Rattle.rsx_rooted.proofs.OneByOne.{popped_in}
use Rattle.rsx_rooted.specs.Items.{ArePopped, IsOutBy}
use Rattle.rsx_sources.specs.Prelude.{Complete, Error, IsStepDone, Meaning, Next}
use Rattle.rsx_tree.specs.Stepped.{IsStepOf}
use Rattle.rsx_kinds.specs.declared.several_node.SeveralNode.TheVariants.{Zip}
use Rattle.rsx_kinds.specs.ZipRows.{IsRowOut}
use Rattle.rsx_kinds.proofs.Batched.{several_machine}
use Rattle.rsx_kinds.proofs.SeveralDispatch.{item_out_zip, stepped_zip}

-- an item is no ending
goes_on : {T : Type 0} (o : Output T) (x : T) → out_signal o ≡ Some (Next x) → has_ending o ≡ false
goes_on Empty x h = refl
goes_on (Waiting (Next y)) x h = refl
goes_on (Waiting Complete) x h = cc
goes_on (Waiting (Error c)) x h = cc
goes_on Over x h = cc

-- a row can be made whatever is asked, as long as that is more than was sent
and_asked : (empty more items : Bool) → more ≡ true → (empty && true) && items ≡ true → (empty && more) && items ≡ true
and_asked empty more items is h = rw is h

rows_asked : {T : Type 0} (n : ZipState T) (asked sent : ℕ) → sent < asked → zip_rows n 1 0 ≡ true → zip_rows n asked sent ≡ true
rows_asked n asked sent less h =
    let more : nat_lt sent asked ≡ true = grind (arith, less, nat_tests) in
    and_asked (is_empty n.output) (nat_lt sent asked) (is_some_input n.inputs && all_have_items n.inputs) more h

step_asked : {T : Type 0} (m : Meaning T) (old mid : ZipState T) (asked sent : ℕ) → sent < asked → IsStepDone (zip_comes_out m) zip_picks zip_rows IsZipRow zip_recording zip_recorded IsZipCounted zip_ended zip_done old 1 0 mid →
    IsStepOf several_machine m (Zip old) asked sent (Zip mid)
step_asked m old mid asked sent less (inl p) =
    let h = p.1 in
    inl (p.0, record { can = h.enabled; value = h.value; recorded = h.notes; composes = h.composes; counts = stepped_zip old mid h.counts; alike = (refl, (refl, λ a. (refl, refl, refl))) })
step_asked m old mid asked sent less (inr h) =
    let row : IsZipRow old asked sent mid = record { row = h.row.row; inputs = h.row.inputs; output = h.row.output; chosen = h.row.chosen } in
    inr (record { can = rows_asked old asked sent less h.enabled; row = row; value = h.value; recorded = h.notes; counts = stepped_zip old mid h.counts; alike = (refl, (refl, λ a. (refl, refl, refl))) })

row_out : {T : Type 0} (m : Meaning T) (old : ZipState T) (x : T) (new : ZipState T) → IsRowOut m old x new → IsOutBy several_machine m true (Zip old) x (Zip new)
row_out m old x new h = λ asked sent less.
    (Zip h.0, step_asked m old h.0 asked sent less h.1, goes_on h.0.output x h.2.waited, (item_out_zip m h.0 new (Some x) h.2, (refl, (refl, λ a. (refl, refl, refl))), refl))

pub rows_out : {T : Type 0} (m : Meaning T) (xs : List T) (n k : ZipState T) → ArePopped (IsRowOut m) n xs k → ArePopped (IsOutBy several_machine m true) (Zip n) xs (Zip k)
rows_out m xs n k h = popped_in Zip (IsRowOut m) (IsOutBy several_machine m true) (row_out m) xs n k h
