-- A choice among the inputs, or lanes, that are left of a node that merges them.
use Rattle.std.proofs.Common.{◌≡◌, ℕ, List, [], ◌∷◌, append_assoc, Some, refl, ap, sym, ◌∙◌}
use Rattle.rsx_sources.specs.Prelude.{Note, Nothing, Picks, Ended, Cause, Next, Complete, Error, note_then, Stream}
use Rattle.rsx_sources.specs.Machine.{IsComposed}
use Rattle.rsx_values.proofs.OneChoice.{merge_step, done_stays}
use Rattle.rsx_values.specs.Prelude.{merge_inputs, InputLeft, next_of}
use Rattle.rsx_queued.proofs.Picks.{none_more}
use Rattle.rsx_queued.specs.declared.output.Output.{Output}
use Rattle.rsx_queued.specs.declared.output.Output.TheVariants.{Empty, Waiting}
use Rattle.rsx_queued.specs.Merged.{merge_behind}
use Rattle.rsx_queued.specs.Output.{output_then}

-- an item is put out
pub item_chosen : {T : Type 0} (out out' : Output T) (is js : List (InputLeft T)) (i : ℕ) (x : T) → out ≡ Empty → out' ≡ Waiting (Next x) → next_of i is ≡ Some (Next x, js) →
    (further : Note) → merge_behind out' js further ≡ merge_behind out is (note_then (Picks (i ∷ [])) further)
item_chosen out out' is js i x empty put next Nothing = refl
item_chosen out out' is js i x empty put next (Ended o) = refl
item_chosen out out' is js i x empty put next (Picks cs) = rw (put, empty) (sym (merge_step i cs is js (Next x) next))

-- a completion that isn't the last puts nothing out
pub completion_chosen : {T : Type 0} (out out' : Output T) (is js : List (InputLeft T)) (i : ℕ) → out ≡ Empty → out' ≡ Empty → next_of i is ≡ Some (Complete, js) →
    (further : Note) → merge_behind out' js further ≡ merge_behind out is (note_then (Picks (i ∷ [])) further)
completion_chosen out out' is js i empty put next Nothing = refl
completion_chosen out out' is js i empty put next (Ended o) = refl
completion_chosen out out' is js i empty put next (Picks cs) = rw (put, empty) (sym (merge_step i cs is js Complete next))

-- the last one is put out
pub last_chosen : {T : Type 0} (out out' : Output T) (is js : List (InputLeft T)) (i : ℕ) → out ≡ Empty → out' ≡ Waiting Complete → next_of i is ≡ Some (Complete, js) → js ≡ [] →
    (further : Note) → merge_behind out' js further ≡ merge_behind out is (note_then (Picks (i ∷ [])) further)
last_chosen out out' is js i empty put next none Nothing = refl
last_chosen out out' is js i empty put next none (Ended o) = refl
last_chosen out out' is js i empty put next none (Picks cs) = rw (put, empty) (done_stays cs ∙ ap (merge_inputs cs) (sym none) ∙ sym (merge_step i cs is js Complete next))

-- a failure is put out, whatever is left then
pub failure_chosen : {T : Type 0} (out out' : Output T) (is js left : List (InputLeft T)) (i : ℕ) (c : Cause) → out ≡ Empty → out' ≡ Waiting (Error c) → next_of i is ≡ Some (Error c, js) →
    (further : Note) → merge_behind out' left further ≡ merge_behind out is (note_then (Picks (i ∷ [])) further)
failure_chosen out out' is js left i c empty put next Nothing = refl
failure_chosen out out' is js left i c empty put next (Ended o) = refl
failure_chosen out out' is js left i c empty put next (Picks cs) = rw (put, empty) (sym (merge_step i cs is js (Error c) next))

-- where these choices are the last
pub none_chosen : {T : Type 0} (out : Output T) (is : List (InputLeft T)) (cs : List ℕ) (rest v : Stream T) → merge_inputs [] is ≡ Some rest → output_then out (Some rest) (merge_inputs [] []) ≡ Some v →
    (further : Note) → note_then (Picks cs) further ≡ Picks cs → merge_behind out is further ≡ Some v
none_chosen out is cs rest v gives whole further none = rw (none_more cs further none) (ap (λ o. output_then out o (merge_inputs [] [])) gives ∙ whole)

-- choices behind choices, in whatever order they are put together
pub picks_compose : (cs ds : List ℕ) → IsComposed (Picks cs) (Picks ds)
picks_compose cs ds Nothing = refl
picks_compose cs ds (Ended o) = refl
picks_compose cs ds (Picks es) = ap Picks (append_assoc cs ds es)
