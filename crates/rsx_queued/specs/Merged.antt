-- The merge of the inputs, or lanes, that are left of a node that picks them.
use Rattle.std.specs.Prelude.{◌≡◌, true, List, [], Option}
use Rattle.rsx_sources.specs.Prelude.{Note, Stream}
use Rattle.rsx_values.specs.Prelude.{merge_inputs, InputLeft}
use Rattle.rsx_queued.specs.declared.output.Output.{Output}
use Rattle.rsx_queued.specs.Inputs.{picked}
use Rattle.rsx_queued.specs.Laws.{ended_out, picked_same}
use Rattle.rsx_queued.specs.Output.{has_ending, output_then}

-- what was put out, and then the merge of these inputs under the further choices; behind an ending nothing can be chosen
abbrev pub merge_behind : {T : Type 0} → Output T → List (InputLeft T) → Note → Option (Stream T)
merge_behind out is further = picked further (λ cs. output_then out (merge_inputs cs is) (merge_inputs cs []))

-- an ending that waits cuts off the inputs
pub merge_cut_off : {T : Type 0} (out : Output T) (is js : List (InputLeft T)) (further : Note) → has_ending out ≡ true → merge_behind out is further ≡ merge_behind out js further
merge_cut_off out is js further e =
    picked_same further (λ cs. output_then out (merge_inputs cs is) (merge_inputs cs [])) (λ cs. output_then out (merge_inputs cs js) (merge_inputs cs []))
    (λ cs. ended_out out (merge_inputs cs is) (merge_inputs cs js) (merge_inputs cs []) e)
