-- The node `flatMap`: the lanes that are live, what it has put out, and the choices made.
use Rattle.std.specs.Prelude.{◌≡◌, ⊤, ℕ, zero, suc, ◌-◌, ◌+◌, ◌≤◌, Bool, true, false, ◌&&◌, ◌==◌, nat_lt, List, [], ◌∷◌, ◌++◌, length, Option, option_map}
use Rattle.rsx_demand.specs.Demand.{saturating_total}
use Rattle.rsx_sources.specs.Prelude.{Note, Picks, Ending, Signal, Stage, Meaning, Stream, signals, Incoming, front_of, is_nil}
use Rattle.rsx_sources.specs.declared.machine.Front.{Front}
use Rattle.rsx_queued.specs.Prelude.{picked, merge_behind, out_signal, is_empty, is_over, has_ending, IsOut}
use Rattle.rsx_values.specs.Prelude.{InputLeft, written, flat_map, main_input}
use Rattle.rsx_merging.specs.Coming.{lanes_left}
use Rattle.rsx_merging.specs.Lanes.{next_front, may_take, AreWhole}
use Rattle.rsx_merging.specs.declared.flat_map_node.FlatMapNode.{FlatMapNode}

-- the lanes that are left of a node at which this value still comes in
abbrev pub left_of : {T : Type 0} → Meaning T → FlatMapNode T → Stream T → List (InputLeft T)
left_of m n v = lanes_left m n.expansion.function n.expansion.stages.items n.lanes n.next n.closed v

abbrev pub flat_comes_out : {T : Type 0} → Meaning T → FlatMapNode T → Incoming T → Note → Option (Stream T)
flat_comes_out m n inc further = merge_behind n.output (left_of m n inc.first) further

-- what comes out is `flat_map` of what comes in, under what is chosen
abbrev pub GivesFlatMap : {T : Type 0} → FlatMapNode T → ℕ → List (Stage T) → Type 0
GivesFlatMap {T} n f gs = (m : Meaning T) (inc : Incoming T) (further : Note) → flat_comes_out m n inc further ≡ picked further (λ cs. flat_map m f gs cs inc.first)

abbrev pub flat_waiting : {T : Type 0} → Meaning T → FlatMapNode T → Option (Signal T)
flat_waiting m n = out_signal n.output

abbrev pub flat_shown : {T : Type 0} → FlatMapNode T → Option Front
flat_shown n = option_map front_of (out_signal n.output)

-- any signal of the one input is taken
abbrev pub flat_takes : {T : Type 0} → FlatMapNode T → ℕ → Front → Bool
flat_takes n i f = i == 0

-- a lane, or Main, can be picked where its next signal is there; an item only where one more may be sent
abbrev pub flat_picks : {T : Type 0} → FlatMapNode T → ℕ → ℕ → ℕ → Bool
flat_picks n i asked sent = is_empty n.output && may_take (next_front i n.lanes) (nat_lt sent asked)

abbrev pub flat_recording : {T : Type 0} → FlatMapNode T → ℕ → Note
flat_recording n i = Picks (i ∷ [])

abbrev pub flat_recorded : {T : Type 0} → FlatMapNode T → Note
flat_recorded n = Picks (written n.choices)

-- the ending waits
abbrev pub flat_ended : {T : Type 0} → FlatMapNode T → Bool
flat_ended n = has_ending n.output

-- the input has ended, or an expansion had a fault; there is one input
abbrev pub flat_done : {T : Type 0} → FlatMapNode T → ℕ → Bool
flat_done n zero = n.closed
flat_done n (suc i) = true

-- as many as its concurrency, and as many more as there are lanes whose completion was picked: those that were made and are not live
abbrev pub flat_wanted : {T : Type 0} → FlatMapNode T → ℕ → ℕ → ℕ → ℕ
flat_wanted n i asked sent = saturating_total n.concurrency (n.next - length n.lanes)

abbrev pub flat_popped : {T : Type 0} → FlatMapNode T → Signal T → FlatMapNode T → Type 0
flat_popped old s new = IsOut old.output s new.output × (new ≡ record old { output = new.output })

-- each item that the input gave has been made a lane, as long as the input goes on
abbrev pub CountsLanes : Bool → ℕ → ℕ → List ℕ → Type 0
CountsLanes true concurrency next taken = ⊤
CountsLanes false concurrency next taken = (1 ≤ concurrency) × (taken ≡ next ∷ [])

-- the node goes on, and its input gave so many items
pub record IsGoing {T : Type 0} (n : FlatMapNode T) (taken : List ℕ) (sent : ℕ) : Type 0 where
  pub not_over : is_over n.output ≡ false
  pub some_left : n.closed && is_nil n.lanes ≡ false
  pub whole : AreWhole n.lanes
  pub counts : CountsLanes n.closed n.concurrency n.next taken

-- with one lane more, of this value
abbrev pub with_lane : {T : Type 0} → FlatMapNode T → Stream T → FlatMapNode T
with_lane n v = record n { lanes = n.lanes ++ (n.next, signals v) ∷ []; next = n.next + 1 }

-- with Main behind the lanes, which has this ending
abbrev pub with_main : {T : Type 0} → FlatMapNode T → Ending → FlatMapNode T
with_main n e = record n { lanes = n.lanes ++ main_input e; closed = true }
