-- A `groupBy` at which nothing came in.
use Rattle.std.proofs.Common.{◌≡◌, ℕ, List, [], ◌++◌, map, ap, sym, ◌∙◌}
use Rattle.rsx_sources.specs.Prelude.{Note, Stage, Meaning, Stream}
use Rattle.rsx_values.specs.Prelude.{merge_inputs, numbered, group_lane, group_by, keyed_items, main_input}
use Rattle.rsx_queued.specs.declared.output.Output.TheVariants.{Empty}
use Rattle.rsx_queued.specs.Prelude.{picked, picked_same, merge_behind}
use Rattle.rsx_grouping.proofs.Copies.{first_then_fresh}
use Rattle.rsx_grouping.specs.declared.table.KeyedLane.{KeyedLane}
use Rattle.rsx_grouping.specs.GroupBy.{inputs_left}
use Rattle.rsx_grouping.specs.declared.main_state.MainState.TheVariants.{Coming}

-- what comes out of it is `groupBy` of what comes in
pub fresh_group : {T : Type 0} (m : Meaning T) (f : ℕ) (gs : List (Stage T)) (rows : List (KeyedLane T)) (v : Stream T) (further : Note) → rows ≡ [] → merge_behind Empty (inputs_left m f gs rows Coming v) further ≡ picked further (λ cs. group_by m f gs cs v)
fresh_group {T} m f gs rows v further none =
    let w : Stream (ℕ × T) = keyed_items (m.keyed f) [] v.items v.ending in
    ap (λ rs. merge_behind Empty (inputs_left m f gs rs Coming v) further) none
    ∙ picked_same further (λ cs. merge_inputs cs (inputs_left m f gs [] Coming v)) (λ cs. group_by m f gs cs v)
    (λ cs. ap (λ ks. merge_inputs cs (numbered 0 (map (group_lane m gs w) ks) ++ main_input w.ending)) (sym (first_then_fresh [] w.items)))
