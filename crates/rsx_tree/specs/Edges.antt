-- Edges: what was asked and sent, and whether signals still go over them.
use Rattle.std.specs.Prelude.{◌≡◌, ℕ, ◌+◌, ◌-◌, min, Bool, true, false, ◌&&◌, nat_lt, nat_eq, if◌then◌else◌, List, [], ◌∷◌, map}
use Rattle.rsx_demand.specs.declared.TheConstants.{UNBOUNDED}
use Rattle.rsx_tree.specs.declared.edge.Edge.{Edge}
use Rattle.rsx_tree.specs.declared.edge.EdgeState.{EdgeState}
use Rattle.rsx_tree.specs.declared.edge.EdgeState.TheVariants.{Live, Ended, Closed}
use Rattle.rsx_sources.specs.declared.machine.Front.{Front}
use Rattle.rsx_sources.specs.declared.machine.Front.TheVariants.{Item, Completion, Failure}

-- an edge as a person sees it
pub record EdgeView : Type 0 where
  pub asked : ℕ
  pub sent : ℕ
  pub state : EdgeState

abbrev pub edge_view : Edge → EdgeView
edge_view e = record { asked = e.demand.asked; sent = e.demand.sent; state = e.state }

abbrev pub is_live : EdgeState → Bool
is_live Live = true
is_live Ended = false
is_live Closed = false

-- the receiver wants more than it asked for
abbrev pub can_ask_for : EdgeView → ℕ → Bool
can_ask_for e want = is_live e.state && nat_lt e.asked want

-- what was asked rose to what is wanted
pub record IsAsked (want : ℕ) (old new : EdgeView) : Type 0 where
  pub asked : new.asked ≡ min UNBOUNDED want
  pub sent : new.sent ≡ old.sent
  pub state : new.state ≡ old.state

-- such a signal can go over the edge: it is an ending, or an item that was asked for
abbrev pub can_pass : EdgeView → Front → Bool
can_pass e Item = is_live e.state && nat_lt e.sent e.asked
can_pass e Completion = is_live e.state
can_pass e (Failure c) = is_live e.state

-- an item is counted, an ending ends the edge
abbrev pub passed : EdgeView → Front → EdgeView
passed e Item = record { asked = e.asked; sent = e.sent + 1; state = e.state }
passed e Completion = record { asked = e.asked; sent = e.sent; state = Ended }
passed e (Failure c) = record { asked = e.asked; sent = e.sent; state = Ended }

abbrev pub IsPassed : Front → EdgeView → EdgeView → Type 0
IsPassed front old new = new ≡ passed old front

-- what was asked rises to what is wanted
abbrev pub asked_up_to : ℕ → EdgeView → EdgeView
asked_up_to want e = record { asked = min UNBOUNDED want; sent = e.sent; state = e.state }

abbrev pub closed_state : EdgeState → EdgeState
closed_state Live = Closed
closed_state Ended = Ended
closed_state Closed = Closed

-- the receiver takes no more
abbrev pub closed_view : EdgeView → EdgeView
closed_view e = record { asked = e.asked; sent = e.sent; state = closed_state e.state }

-- the edge itself, closed
abbrev pub closed_edge : Edge → Edge
closed_edge e = record e { state = closed_state e.state }

-- the edge with this number changed
abbrev pub changed_at : (EdgeView → EdgeView) → ℕ → List EdgeView → List EdgeView
changed_at f at [] = []
changed_at f at (e ∷ es) = if nat_eq at 0 then f e ∷ es else e ∷ changed_at f (at - 1) es

-- closed, where the receiver ended
abbrev pub closed_if : Bool → List EdgeView → List EdgeView
closed_if false es = es
closed_if true es = map closed_view es
