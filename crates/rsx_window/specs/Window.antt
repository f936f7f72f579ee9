-- The node `window`: what waits in it, the window that is started, and how many items it got.
use Rattle.std.specs.Prelude.{◌≡◌, ℕ, ◌<◌, min, Bool, true, false, ◌&&◌, ◌==◌, not, nat_lt, nat_le, if◌then◌else◌, List, [], ◌∷◌, length, slice_get, Option, option_map}
use Rattle.rsx_demand.specs.Demand.{saturating_total}
use Rattle.rsx_demand.specs.declared.TheConstants.{UNBOUNDED}
use Rattle.rsx_sources.specs.Prelude.{Note, Signal, Stage, Meaning, Stream, signals_then, Incoming, quiet, front_of, is_nil}
use Rattle.rsx_sources.specs.declared.machine.Front.{Front}
use Rattle.rsx_collections.specs.Signals.{has_ending}
use Rattle.rsx_values.specs.Window.{window}
use Rattle.rsx_window.specs.Cut.{window_left, is_over, GoesOn}
use Rattle.rsx_window.specs.declared.current.CurrentWindow.{CurrentWindow}
use Rattle.rsx_window.specs.declared.node.WindowNode.{WindowNode}

-- these signals, and then the windows of what comes in
abbrev pub windows_of : {T : Type 0} → Meaning T → ℕ → List (Stage T) → List (Signal T) → CurrentWindow T → Incoming T → Note → Option (Stream T)
windows_of m size gs waits current inc further = quiet further (signals_then waits (window_left m size gs current inc.first))

abbrev pub window_comes_out : {T : Type 0} → Meaning T → WindowNode T → Incoming T → Note → Option (Stream T)
window_comes_out m n inc further = windows_of m n.size n.stages.items n.pending.left n.current inc further

-- what comes out is `window` of what comes in
abbrev pub GivesWindows : {T : Type 0} → WindowNode T → ℕ → List (Stage T) → Type 0
GivesWindows {T} n size gs = (m : Meaning T) (inc : Incoming T) (further : Note) → window_comes_out m n inc further ≡ quiet further (window m size gs inc.first)

-- the oldest signal waits
abbrev pub window_waiting : {T : Type 0} → Meaning T → WindowNode T → Option (Signal T)
window_waiting m n = slice_get n.pending.left 0

abbrev pub window_shown : {T : Type 0} → WindowNode T → Option Front
window_shown n = option_map front_of (slice_get n.pending.left 0)

-- a signal of the one input is taken where no signal waits and the ending was not put out
abbrev pub window_takes : {T : Type 0} → WindowNode T → ℕ → Bool
window_takes n i = (i == 0) && (is_nil n.pending.left && not (is_over n.current))

abbrev pub window_ended : {T : Type 0} → WindowNode T → Bool
window_ended n = has_ending n.pending.left

abbrev pub window_done : {T : Type 0} → WindowNode T → ℕ → Bool
window_done n i = is_over n.current

-- how many signals the out slot still holds at most: two, or one where one of the two went out
abbrev pub slot_left : Bool → ℕ
slot_left true = 1
slot_left false = 2

-- whether no signal waits but those in the out slot
abbrev pub fits_slot : {T : Type 0} → WindowNode T → Bool
fits_slot n = nat_le (length n.pending.left) (slot_left n.halfway)

-- one item more than the node got where nothing waits behind the out slot and fewer items were sent than asked for
abbrev pub window_wanted : {T : Type 0} → WindowNode T → ℕ → ℕ → ℕ → ℕ
window_wanted n i asked sent = if nat_lt sent asked && fits_slot n then saturating_total n.got 1 else n.got

-- the oldest signal left, and there is memory to put it back
pub record IsPoppedWindow {T : Type 0} (old : WindowNode T) (s : Signal T) (new : WindowNode T) : Type 0 where
  pub signal : old.pending.left ≡ s ∷ new.pending.left
  pub room : old.pending.room ≡ new.pending.room
  pub space : length new.pending.left < new.pending.room
  pub size : old.size ≡ new.size
  pub stages : old.stages ≡ new.stages
  pub current : old.current ≡ new.current
  pub halfway : old.halfway ≡ not new.halfway
  pub got : old.got ≡ new.got

-- as long as the ending was not put out: how many items the node got; and the chain of the window that is started goes on
pub record CountsItems {T : Type 0} (n : WindowNode T) (taken : List ℕ) (sent : ℕ) : Type 0 where
  pub open_still : is_over n.current ≡ false
  pub goes_on : GoesOn n.current
  pub items : ℕ
  pub at : taken ≡ items ∷ []
  pub got : n.got ≡ min UNBOUNDED items
