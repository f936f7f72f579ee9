-- The node `groupBy`: its lanes, where Main is, what it has put out, and the choices made.
use Rattle.std.specs.Prelude.{◌≡◌, ℕ, ◌≤◌, min, Bool, false, ◌&&◌, ◌==◌, not, nat_lt, if◌then◌else◌, List, [], ◌∷◌, length, slice_get, Option, option_map}
use Rattle.rsx_demand.specs.Demand.{saturating_total}
use Rattle.rsx_demand.specs.declared.TheConstants.{UNBOUNDED}
use Rattle.rsx_sources.specs.Prelude.{Note, Picks, Ending, Done, Failed, Signal, Next, Complete, Error, Stage, Meaning, Stream, ended_by, item_then, Incoming, front_of}
use Rattle.rsx_sources.specs.declared.machine.Front.{Front}
use Rattle.rsx_values.specs.Prelude.{InputLeft, written, keyed_items, group_by, main_input}
use Rattle.rsx_values.specs.declared.limits.TheConstants.{MAIN, MOST_KEYS}
use Rattle.rsx_queued.specs.declared.output.Output.{Output}
use Rattle.rsx_queued.specs.declared.output.Output.TheVariants.{Waiting}
use Rattle.rsx_queued.specs.Prelude.{picked, merge_behind, out_signal, is_empty, is_over, has_ending, IsOut}
use Rattle.rsx_grouping.specs.Rows.{keys_of, are_quiet, are_gone, can_pick_at, GoOn}
use Rattle.rsx_grouping.specs.Table.{lanes_left}
use Rattle.rsx_grouping.specs.declared.table.KeyedLane.{KeyedLane}
use Rattle.rsx_grouping.specs.MainState.{is_coming, is_done, is_ready, is_taken}
use Rattle.rsx_grouping.specs.declared.main_state.MainState.{MainState}
use Rattle.rsx_grouping.specs.declared.main_state.MainState.TheVariants.{Coming, Completed, Failing, Taken}
use Rattle.rsx_grouping.specs.declared.node.GroupByNode.{GroupByNode}

-- what still comes in with its keys, where these keys were seen; once the ending came, that
abbrev pub keyed_left : {T : Type 0} → Meaning T → ℕ → List ℕ → MainState → Stream T → Stream (ℕ × T)
keyed_left m f ks Coming v = keyed_items (m.keyed f) ks v.items v.ending
keyed_left m f ks Completed v = ended_by Done
keyed_left m f ks (Failing c) v = ended_by (Failed c)
keyed_left m f ks Taken v = ended_by Done

-- Main, unless it was picked
abbrev pub main_left : {T : Type 0} → MainState → Ending → List (InputLeft T)
main_left Coming e = main_input e
main_left Completed e = main_input e
main_left (Failing c) e = main_input e
main_left Taken e = []

-- the lanes of what still comes in with its keys, and Main
abbrev pub lanes_and_main : {T : Type 0} → Meaning T → List (Stage T) → List (KeyedLane T) → MainState → Stream (ℕ × T) → List (InputLeft T)
lanes_and_main m gs rows main w = lanes_left m gs rows w (main_left main w.ending)

-- all inputs of the merge, where this still comes in
abbrev pub inputs_left : {T : Type 0} → Meaning T → ℕ → List (Stage T) → List (KeyedLane T) → MainState → Stream T → List (InputLeft T)
inputs_left m f gs rows main v = lanes_and_main m gs rows main (keyed_left m f (keys_of rows) main v)

-- an item came in: the inputs of the merge stay
abbrev pub TakesItem : {T : Type 0} → Meaning T → ℕ → List (Stage T) → List (KeyedLane T) → MainState → T → List (KeyedLane T) → MainState → Type 0
TakesItem {T} m f gs rows main x rows' main' = (v : Stream T) → inputs_left m f gs rows' main' v ≡ inputs_left m f gs rows main (item_then x v)

abbrev pub group_comes_out : {T : Type 0} → Meaning T → GroupByNode T → Incoming T → Note → Option (Stream T)
group_comes_out m n inc further = merge_behind n.output (inputs_left m n.function n.stages.items n.table n.main inc.first) further

-- what comes out is `groupBy` of what comes in, under the choices
abbrev pub GivesGroups : {T : Type 0} → GroupByNode T → ℕ → List (Stage T) → Type 0
GivesGroups {T} n f gs = (m : Meaning T) (inc : Incoming T) (further : Note) → group_comes_out m n inc further ≡ picked further (λ cs. group_by m f gs cs inc.first)

abbrev pub group_waiting : {T : Type 0} → Meaning T → GroupByNode T → Option (Signal T)
group_waiting m n = out_signal n.output

abbrev pub group_shown : {T : Type 0} → GroupByNode T → Option Front
group_shown n = option_map front_of (out_signal n.output)

-- a signal of the one input is taken where the out slot is empty and nothing waits in a lane
abbrev pub group_takes : {T : Type 0} → GroupByNode T → ℕ → Bool
group_takes n i = (i == 0) && (is_empty n.output && are_quiet n.table)

-- Main can be picked as soon as its ending came, and a lane where its next signal is there
abbrev pub can_pick_from : {T : Type 0} → List (KeyedLane T) → MainState → ℕ → ℕ → ℕ → Bool
can_pick_from rows main i asked sent = if i == MAIN then is_ready main else can_pick_at (slice_get rows i) (is_done main) asked sent

abbrev pub group_picks : {T : Type 0} → GroupByNode T → ℕ → ℕ → ℕ → Bool
group_picks n i asked sent = is_empty n.output && can_pick_from n.table n.main i asked sent

abbrev pub group_recording : {T : Type 0} → GroupByNode T → ℕ → Note
group_recording n i = Picks (i ∷ [])

abbrev pub group_recorded : {T : Type 0} → GroupByNode T → Note
group_recorded n = Picks (written n.choices)

-- the ending waits
abbrev pub group_ended : {T : Type 0} → GroupByNode T → Bool
group_ended n = has_ending n.output

abbrev pub group_done : {T : Type 0} → GroupByNode T → ℕ → Bool
group_done n i = not (is_coming n.main)

-- whether Main and all lanes were picked to their ends
abbrev pub is_complete : {T : Type 0} → List (KeyedLane T) → MainState → Bool
is_complete rows main = is_taken main && are_gone rows

-- the completion is put out where it is complete
abbrev pub unless_complete : {T : Type 0} → GroupByNode T → GroupByNode T
unless_complete n = record n { output = if is_complete n.table n.main then Waiting Complete else n.output }

-- the signal that was picked is put out: an item, a failure behind which nothing can be picked, and a completion where it is the last
abbrev pub after_signal : {T : Type 0} → Signal T → GroupByNode T → GroupByNode T
after_signal (Next x) n = record n { output = Waiting (Next x) }
after_signal Complete n = unless_complete n
after_signal (Error c) n = record n { output = Waiting (Error c); table = [] }

-- the node goes on, and has got so many items
pub record IsGoing {T : Type 0} (out : Output T) (rows : List (KeyedLane T)) (main : MainState) (got : ℕ) (taken : List ℕ) : Type 0 where
  pub not_over : is_over out ≡ false
  pub some_left : is_complete rows main ≡ false
  pub few : length rows ≤ MOST_KEYS
  pub goes_on : GoOn rows
  pub items : ℕ
  pub at : taken ≡ items ∷ []
  pub counts : got ≡ min UNBOUNDED items

abbrev pub group_counted : {T : Type 0} → GroupByNode T → List ℕ → ℕ → Type 0
group_counted n taken sent = IsGoing n.output n.table n.main n.got taken

-- one item more than the node got where nothing waits in a lane and fewer items were sent than asked for
abbrev pub group_wanted : {T : Type 0} → GroupByNode T → ℕ → ℕ → ℕ → ℕ
group_wanted n i asked sent = if nat_lt sent asked && are_quiet n.table then saturating_total n.got 1 else n.got

-- the signal left the out slot, and all else stays
pub record IsPoppedGroup {T : Type 0} (old : GroupByNode T) (s : Signal T) (new : GroupByNode T) : Type 0 where
  pub out : IsOut old.output s new.output
  pub function : old.function ≡ new.function
  pub stages : old.stages ≡ new.stages
  pub table : old.table ≡ new.table
  pub main : old.main ≡ new.main
  pub choices : old.choices ≡ new.choices
  pub got : old.got ≡ new.got
