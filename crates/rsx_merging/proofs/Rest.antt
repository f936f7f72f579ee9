-- What still comes out of a merge where nothing more is chosen.
use Rattle.std.proofs.Common.{◌≡◌, List, [], Some, ap, ◌∙◌}
use Rattle.std.specs.Prelude.{⊤, ℕ}
use Rattle.rsx_sources.specs.Prelude.{Note, Picks, note_then, Stream, incoming_of}
use Rattle.rsx_queued.proofs.Picks.{padded}
use Rattle.rsx_queued.proofs.Merged.{none_chosen}
use Rattle.rsx_queued.specs.declared.input.QueuedInput.{QueuedInput}
use Rattle.rsx_queued.specs.declared.output.Output.{Output}
use Rattle.rsx_queued.specs.Prelude.{inputs_left, merge_behind, output_then}
use Rattle.rsx_values.specs.Merge.{merge_inputs}
use Rattle.rsx_merging.specs.Merge.{merge_of}

-- where these choices are the last
pub rest_out : {T : Type 0} (out : Output T) (qs : List (QueuedInput T)) (cs : List ℕ) (vs : List (Stream T)) (rest v : Stream T) → merge_inputs [] (inputs_left 0 qs vs) ≡ Some rest → output_then out (Some rest) (merge_inputs [] []) ≡ Some v →
    (hubs : List (Stream T)) (further : Note) → ⊤ → note_then (Picks cs) further ≡ Picks cs → merge_of out qs (incoming_of hubs vs) further ≡ Some v
rest_out out qs cs vs rest v is gives hubs further behind none =
    ap (λ left. merge_behind out left further) (padded qs hubs vs) ∙ none_chosen out (inputs_left 0 qs vs) cs rest v is gives further none
