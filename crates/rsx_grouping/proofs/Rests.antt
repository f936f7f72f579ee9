-- Nothing comes out of a `groupBy` of which nothing can be picked, and at which nothing more comes in.
use Rattle.std.proofs.Common.{◌≡◌, ℕ, ◌<◌, ◌^◌, ◌==◌, ◌&&◌, Bool, true, false, List, [], length, slice_get, Some, None, refl, ap, ◌∙◌, subst, arith}
use Rattle.std.specs.Prelude.{not}
use Rattle.std.proofs.lemmas.Bool.Decides.{nat_tests}
use Rattle.rsx_sources.specs.Prelude.{Picks, Open, Stage, Meaning, ended_by, AreWithin, Incoming}
use Rattle.rsx_sources.proofs.Hungry.{wants_input}
use Rattle.rsx_sources.specs.declared.machine.Front.TheVariants.{Item}
use Rattle.rsx_values.specs.Prelude.{merge_inputs, merged, InputLeft, main_input}
use Rattle.rsx_queued.specs.Prelude.{empty_of, is_empty}
use Rattle.rsx_grouping.specs.declared.table.KeyedLane.{KeyedLane}
use Rattle.rsx_grouping.proofs.Idle.{IsIdle, lanes_rest}
use Rattle.rsx_grouping.specs.Rows.{are_quiet, GoOn}
use Rattle.rsx_grouping.specs.Table.{lanes_there}
use Rattle.rsx_grouping.specs.GroupBy.{group_comes_out, group_waiting, group_takes, group_picks, group_ended, group_done, group_counted, group_wanted, inputs_left}
use Rattle.rsx_grouping.specs.Laws.{group_hungry}
use Rattle.rsx_grouping.specs.MainState.{is_coming}
use Rattle.rsx_grouping.specs.declared.main_state.MainState.{MainState}
use Rattle.rsx_grouping.specs.declared.main_state.MainState.TheVariants.{Coming, Completed, Failing, Taken}
use Rattle.rsx_grouping.specs.declared.node.GroupByNode.{GroupByNode}
use Rattle.rsx_queued.proofs.Outputs.{empty_is}
use Rattle.rsx_grouping.proofs.Chosen.{and_right}

-- ---- the inputs of the merge

main_rests : {T : Type 0} → IsIdle {T = T} (main_input Open)
main_rests = record { none = refl; some = refl }

merge_rests : {T : Type 0} (is : List (InputLeft T)) → IsIdle is → merge_inputs [] is ≡ Some (ended_by Open)
merge_rests is h = ap (λ ts. Some (merged (length is) ts)) h.none ∙ rw h.some refl

left_rests : {T : Type 0} (m : Meaning T) (f : ℕ) (gs : List (Stage T)) (rows : List (KeyedLane T)) (main : MainState) → is_coming main ≡ true → are_quiet rows ≡ true → GoOn rows → merge_inputs [] (inputs_left m f gs rows main (ended_by Open)) ≡ Some (ended_by Open)
left_rests m f gs rows Coming c q on = merge_rests (lanes_there m 0 rows (ended_by Open) (main_input Open)) (lanes_rest m 0 rows (main_input Open) q on main_rests)
left_rests m f gs rows Completed c q on = cc
left_rests m f gs rows (Failing e) c q on = cc
left_rests m f gs rows Taken c q on = cc

-- ---- nor does the node

goes_on : (b : Bool) → not b ≡ false → b ≡ true
goes_on true h = refl
goes_on false h = cc

-- it has one input
at_first : (P : ℕ → Type 0) (i : ℕ) (b : Bool) → (i == 0) && b ≡ true → P i → P 0
at_first P i b e p = subst P (by_test (i == 0) refl e) p
  where
    by_test : (t : Bool) → (i == 0) ≡ t → t && b ≡ true → i ≡ 0
    by_test true is e = grind (arith, nat_tests)
    by_test false is e = cc

-- what its one input says where more is wanted of it
record Wants {T : Type 0} (n : GroupByNode T) (taken : List ℕ) (asked sent i : ℕ) : Type 0 where
  c : ℕ
  at : slice_get taken i ≡ Some c
  open_still : group_done n i ≡ false
  takes : group_takes n i ≡ true
  wants : c < group_wanted n i asked sent

-- nothing can be picked, and where more is wanted of the input than it gave, nothing comes in there
pub group_rests : {T : Type 0} (m : Meaning T) (n : GroupByNode T) (taken : List ℕ) (asked sent : ℕ) (inc : Incoming T) → group_ended n ≡ false → group_counted n taken sent → group_waiting m n ≡ None → sent < asked → AreWithin taken →
    ((i : ℕ) → i < 2 ^ 64 → group_picks n i asked sent ≡ false) → ((c : ℕ) → slice_get taken 0 ≡ Some c → group_done n 0 ≡ false → group_takes n 0 ≡ true → c < group_wanted n 0 asked sent → inc.first ≡ ended_by Open) → group_comes_out m n inc (Picks []) ≡ Some (ended_by Open)
group_rests {T} m n taken asked sent inc still counted waits more within picks none =
    let k = wants_input (λ b i f. group_takes b i) group_picks (λ b a s. false) group_done group_wanted (λ b. None) n taken asked sent (group_hungry m n taken asked sent still counted waits more within) picks refl refl in
    waiting_for k.i (record { c = k.c; at = k.at; open_still = k.open_still; takes = k.takes_any Item; wants = k.wants })
  where
    nothing_left : Wants n taken asked sent 0 → group_comes_out m n inc (Picks []) ≡ Some (ended_by Open)
    nothing_left k =
        let free : is_empty n.output ≡ true = empty_of n.output waits counted.not_over in
        let quiet : are_quiet n.table ≡ true = and_right (is_empty n.output) (are_quiet n.table) k.takes in
        rw (empty_is n.output free, none k.c k.at k.open_still k.takes k.wants) (left_rests m n.function n.stages.items n.table n.main (goes_on (is_coming n.main) k.open_still) quiet counted.goes_on)

    waiting_for : (i : ℕ) → Wants n taken asked sent i → group_comes_out m n inc (Picks []) ≡ Some (ended_by Open)
    waiting_for i k = nothing_left (at_first (Wants n taken asked sent) i (is_empty n.output && are_quiet n.table) k.takes k)
