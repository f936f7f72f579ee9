-- What the nodes of a tree do.
use Rattle.std.specs.Prelude.{◌≡◌, ◌==◌, if◌then◌else◌, option_map, ℕ, ◌+◌, ◌-◌, List, [], ◌∷◌, ◌++◌, length, Option, Some, None, slice_get}
use Rattle.rsx_types.specs.declared.names.SubId.{SubId}
use Rattle.rsx_types.specs.declared.note.Note.{Note}
use Rattle.rsx_types.specs.declared.note.Note.TheVariants as note
use Rattle.rsx_values.specs.declared.limits.TheConstants.{MAIN}
use Rattle.rsx_rooted.specs.declared.nodes.Nodes.{Ghosts as Nodes}
use Rattle.rsx_sources.specs.declared.machine.Front.{Front}
use Rattle.rsx_sources.specs.declared.machine.Front.TheVariants as front
use Rattle.rsx_sources.specs.declared.machine.Machine.{Ghosts as Machine}
use Rattle.rsx_tree.specs.declared.edge.Edge.{Edge}
use Rattle.rsx_tree.specs.declared.edge.EdgeState.{EdgeState}
use Rattle.rsx_tree.specs.declared.edge.EdgeState.TheVariants as state
use Rattle.rsx_tree.specs.declared.inputs.Inputs.{Inputs, End, More'}
use Rattle.rsx_tree.specs.declared.node.Node.{Node}
use Rattle.rsx_tree.specs.Inputs.{size}
use Rattle.rsx_graph_state.specs.Prelude.{Subscription}
use Rattle.rsx_waits.specs.declared.look.EdgeLook.{EdgeLook}
use Rattle.rsx_waits.specs.declared.look.EdgeLook.TheVariants as shown
use Rattle.rsx_waits.specs.declared.look.NodeLook.{NodeLook}
use Rattle.rsx_waits.specs.declared.look.Recorded.{Recorded}
use Rattle.rsx_waits.specs.declared.look.Recorded.TheVariants as last
use Rattle.rsx_waits.specs.declared.look.Offer.{Offer}
use Rattle.rsx_waits.specs.declared.look.Offer.TheVariants as offer

-- whether signals still go over an edge
abbrev pub edge_look : EdgeState → EdgeLook
edge_look state.Live = shown.Live
edge_look state.Ended = shown.Ended
edge_look state.Closed = shown.Closed

-- what a node offers
abbrev pub offer_of : Option Front → Offer
offer_of None = offer.Nothing
offer_of (Some front.Item) = offer.Item
offer_of (Some front.Completion) = offer.Completion
offer_of (Some (front.Failure c)) = offer.Failure

-- what a choice took
abbrev pub recorded : ℕ → Recorded
recorded choice = if choice == MAIN then last.Main else last.From choice

-- what stands last in a record: what a choice took, or the input whose ending a zip took
abbrev pub last_of : Note → Option Recorded
last_of note.Nothing = None
last_of (note.Picks choices) = option_map recorded (slice_get choices (length choices - 1))
last_of (note.Ended input) = option_map last.From input

-- how many signals stand in the queue of an edge that crosses: a closed edge keeps none
abbrev pub kept_in : EdgeState → Option ℕ → Option ℕ
kept_in state.Live crossing = crossing
kept_in state.Ended crossing = crossing
kept_in state.Closed crossing = option_map (λ k. 0) crossing

-- what a node offers over its edge: over a closed one that crosses nothing, since the queue offers it
abbrev pub offered_over : EdgeState → Option ℕ → Offer → Offer
offered_over state.Live crossing o = o
offered_over state.Ended crossing o = o
offered_over state.Closed None o = o
offered_over state.Closed (Some k) o = offer.Nothing

-- a node over its edge to this receiver, in whose queue for it so many signals wait
abbrev pub look : {M T : Type 0} → Machine M T → Nodes M T → Option ℕ → Option ℕ → Edge → M → NodeLook
look b d receiver queued e n = record { operator = d.operator_of n; receiver = receiver; asked = e.demand.asked; sent = e.demand.sent; edge = edge_look e.state; crossing = kept_in e.state (d.crossing_of n); queued = queued; lanes = d.lanes_of n; offer = offered_over e.state (d.crossing_of n) (offer_of (b.shown n)); last = last_of (b.recorded n) }

-- the nodes of a row and those below them, in pre-order, where the first has the number `first`; it is the input with the number
-- `input` of the receiver r
abbrev pub row_looks : {M T : Type 0} → Machine M T → Nodes M T → M → ℕ → ℕ → ℕ → Inputs M → List NodeLook
row_looks b d r receiver input first End = []
row_looks b d r receiver input first (More' e n p below q beside) =
    look b d (Some receiver) (d.queued_of r input) e n ∷ (row_looks b d n first 0 (first + 1) below ++ row_looks b d r receiver (input + 1) (first + 1 + size below) beside)

-- the nodes of a tree, whose root has the number 0 and this edge, where so many signals wait for the subscriber
abbrev pub tree_looks : {M T : Type 0} → Machine M T → Nodes M T → ℕ → Edge → Node M → List NodeLook
tree_looks b d queued root t = look b d None (Some queued) root t.machine ∷ row_looks b d t.machine 0 0 1 t.inputs

-- the subscription with this number is there, and its nodes do this
abbrev pub HasLooks : {M T : Type 0} → Machine M T → Nodes M T → List (Subscription M T) → SubId → List NodeLook → Type 0
HasLooks {M} {T} b d subs i looks = (s : Subscription M T) × (slice_get subs i.0 ≡ Some s) × (looks ≡ tree_looks b d (length s.queue) s.part.root s.part.tree)
