-- The lanes and Main as the inputs of a pick.
use Rattle.std.proofs.Common.{◌≡◌, ℕ, List, [], ◌∷◌, ◌++◌, length, map, refl, ap, sym, ◌∙◌, arith}
use Rattle.std.proofs.lemmas.List.{append-nil}
use Rattle.rsx_types.specs.declared.signal.Ending.{Ending}
use Rattle.rsx_types.specs.Stream.{Stream, signals, ended_by}
use Rattle.rsx_values.specs.Pick.{InputLeft, numbered}
use Rattle.rsx_values.specs.declared.limits.TheConstants.{MAIN}
use Rattle.rsx_types.specs.declared.stage.Stage.{Stage}
use Rattle.rsx_types.specs.Meaning.{Meaning}
use Rattle.rsx_types.specs.Plain.{chained, listed}
use Rattle.rsx_values.specs.Flat.{IsExpanded, expanded_items, flat_lane, flat_map, flat_map_delay}
use Rattle.rsx_values.specs.Lanes.{lanes_and_main, merged_lanes, merged_lanes_delay}

-- no lane is left, and Main stands behind the others
pub main_last : {T : Type 0} (inputs all : List (InputLeft T)) (lanes rest : List (Stream T)) (main : Stream T) (e : Ending) →
    inputs ++ numbered (length inputs) rest ≡ numbered 0 lanes → length rest ≡ 0 → main.items ≡ [] → main.ending ≡ e → all ≡ inputs ++ (MAIN, signals main) ∷ [] → all ≡ lanes_and_main lanes e
main_last inputs all lanes [] main e i none xs end was =
    was ∙ (λ j. inputs ++ (MAIN, signals (record { items = xs j; ending = end j })) ∷ []) ∙ ap (λ is. is ++ (MAIN, signals (ended_by e)) ∷ []) (sym (append-nil inputs) ∙ i)
main_last inputs all lanes (v ∷ rest) main e i none xs end was = absurd (omega arith)

-- ---- the lanes of expansions

listed_lanes : {T : Type 0} (m : Meaning T) (gs : List (Stage T)) (ls : List (List T)) → map (chained m gs) (map listed ls) ≡ map (flat_lane m gs) ls
listed_lanes m gs [] = refl
listed_lanes m gs (ys ∷ ls) = ap (λ vs. chained m gs (listed ys) ∷ vs) (listed_lanes m gs ls)

-- each expansion goes through the chain
pub flat_is : {T : Type 0} (m : Meaning T) (f : ℕ) (gs : List (Stage T)) (cs : List ℕ) (v : Stream T) (values lanes : List (Stream T)) (e : Ending) →
    IsExpanded (expanded_items (m.expanded f) v.items v.ending) values e → lanes ≡ map (chained m gs) values → merged_lanes cs lanes e ≡ flat_map m f gs cs v
flat_is m f gs cs v values lanes e x is =
    let lists = expanded_items (m.expanded f) v.items v.ending in
    ap (λ l. merged_lanes cs l e) (is ∙ ap (map (chained m gs)) x.0 ∙ listed_lanes m gs lists.items)
    ∙ ap (merged_lanes cs (map (flat_lane m gs) lists.items)) x.1

pub flat_delay_is : {T : Type 0} (m : Meaning T) (f : ℕ) (gs : List (Stage T)) (cs : List ℕ) (v : Stream T) (values lanes : List (Stream T)) (e : Ending) →
    IsExpanded (expanded_items (m.expanded f) v.items v.ending) values e → lanes ≡ map (chained m gs) values → merged_lanes_delay cs lanes e ≡ flat_map_delay m f gs cs v
flat_delay_is m f gs cs v values lanes e x is =
    let lists = expanded_items (m.expanded f) v.items v.ending in
    ap (λ l. merged_lanes_delay cs l e) (is ∙ ap (map (chained m gs)) x.0 ∙ listed_lanes m gs lists.items)
    ∙ ap (merged_lanes_delay cs (map (flat_lane m gs) lists.items)) x.1
