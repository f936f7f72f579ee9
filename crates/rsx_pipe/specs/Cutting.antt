-- A part that is cut at an edge with a queue, and joined there again.
use Rattle.std.specs.Prelude.{◌≡◌, ℕ, ◌+◌, ◌-◌, Bool, true, false, not, ◌&&◌, nat_eq, nat_le, if◌then◌else◌, List, [], ◌++◌, length, Option, Some, None}
use Rattle.rsx_sources.specs.Prelude.{Reading, reads_hub}
use Rattle.rsx_sources.specs.declared.machine.Machine.{Ghosts as Machine}
use Rattle.rsx_rooted.specs.Cutting.{items_of}
use Rattle.rsx_rooted.specs.declared.nodes.CrossingNodes.{Ghosts as CrossingNodes}
use Rattle.rsx_tree.specs.declared.edge.Edge.{Edge}
use Rattle.rsx_tree.specs.declared.inputs.Inputs.{Inputs, End, More'}
use Rattle.rsx_tree.specs.declared.node.Node.{Node}
use Rattle.rsx_tree.specs.Edges.{EdgeView, edge_view, is_live}
use Rattle.rsx_tree.specs.Inputs.{size}
use Rattle.rsx_tree.specs.Swapped.{with_sender}
use Rattle.rsx_types.specs.declared.limits.TheConstants.{CAPACITY}
use Rattle.rsx_pipe.specs.Part.{Part}

-- ---- where it is cut

-- the root edge of what is below an edge with such items in its queue: they count as sent, as long as so many were asked for
abbrev pub root_over : EdgeView → ℕ → Option EdgeView
root_over e items = if nat_le (e.sent + items) e.asked then Some (record { asked = e.asked; sent = e.sent + items; state = e.state }) else None

abbrev pub root_with : {T : Type 0} → EdgeView → Option (List T) → Option EdgeView
root_with e None = None
root_with e (Some q) = root_over e (length q)

abbrev pub root_here : {M T : Type 0} → (M → Option (List T)) → Edge → M → Option EdgeView
root_here queue e n = if is_live e.state then root_with (edge_view e) (queue n) else None

-- the same of the edge `at` of a row, where it and all above it are live, and no ending is in its queue
abbrev pub root_below : {M T : Type 0} → (M → Option (List T)) → ℕ → Inputs M → Option EdgeView
root_below queue at End = None
root_below queue at (More' e n p below q beside) =
    if nat_eq at 0 then root_here queue e n
    else (if nat_le at (size below) then (if is_live e.state then root_below queue (at - 1) below else None)
    else root_below queue (at - 1 - size below) beside)

-- the same of a part, whose edges below its root have the numbers from 1 on
abbrev pub new_root : {M T : Type 0} → (M → Option (List T)) → Part M → ℕ → Option EdgeView
new_root queue part at = if nat_eq at 0 then root_here queue part.root part.tree.machine else (if is_live part.root.state then root_below queue (at - 1) part.tree.inputs else None)

-- a tree of a part, where another node, with these inputs below it, sends over the edge `at`
abbrev pub with_node : {M : Type 0} → ℕ → M → Inputs M → Node M → Node M
with_node at x below t = if nat_eq at 0 then record { machine = x; inputs = below } else with_sender (at - 1) x below t

-- the first part is the second where the tree `below`, with a queue of these items at its root, takes the place of the node `reader`
pub record IsCut {M T : Type 0} (b : Machine M T) (crossing : CrossingNodes M T) (old : Part M) (at : ℕ) (reader : M) (below : Part M) (queue : List T) (new : Part M) : Type 0 where
  pub edge : new_root crossing.edge_queue old at ≡ Some (edge_view below.root)
  pub straight : b.crosses below.tree.machine ≡ false
  pub whole : old.tree ≡ with_node at (crossing.queued queue below.tree.machine) below.tree.inputs old.tree
  pub upper : new ≡ record old { tree = with_node at reader End old.tree }

-- ---- where it is joined

-- no inputs
abbrev pub is_end : {M : Type 0} → Inputs M → Bool
is_end End = true
is_end (More' e n p below q beside) = false

-- of the edge `at` of a row, the node and what is below it
pub record Place (M : Type 0) : Type 0 where
  pub node : M
  pub below : Inputs M

abbrev pub sender_at : {M : Type 0} → ℕ → Inputs M → Option (Place M)
sender_at at End = None
sender_at at (More' e n p below q beside) =
    if nat_eq at 0 then Some (record { node = n; below = below })
    else (if nat_le at (size below) then sender_at (at - 1) below else sender_at (at - 1 - size below) beside)

-- the same of a tree of a part
abbrev pub place_at : {M : Type 0} → ℕ → Node M → Option (Place M)
place_at at t = if nat_eq at 0 then Some (record { node = t.machine; below = t.inputs }) else sender_at (at - 1) t.inputs

-- a queue takes back what a reader holds and so many items behind that
abbrev pub fits_behind : {T : Type 0} → Option (List T) → ℕ → Bool
fits_behind None count = false
fits_behind (Some items) count = nat_le (length items + count) CAPACITY

-- the node is a reader of this hub, with nothing below it, and a queue takes back what it holds and so many items
abbrev pub can_take_back : {M T : Type 0} → Machine M T → CrossingNodes M T → ℕ → ℕ → M → Inputs M → Bool
can_take_back b crossing hub count n below = is_end below && (reads_hub hub (b.reads n) && fits_behind (crossing.held n) count)

abbrev pub can_join_here : {M T : Type 0} → Machine M T → CrossingNodes M T → ℕ → List T → M → Inputs M → Bool
can_join_here b crossing hub queue n below = can_take_back b crossing hub (length queue) n below

abbrev pub can_join_in : {M T : Type 0} → Machine M T → CrossingNodes M T → ℕ → List T → Option (Place M) → Bool
can_join_in b crossing hub queue None = false
can_join_in b crossing hub queue (Some p) = can_join_here b crossing hub queue p.node p.below

-- the node reads this hub, and took in so many items of it
abbrev pub ReadsAt : {M T : Type 0} → Machine M T → ℕ → ℕ → M → Type 0
ReadsAt b hub count n = (r : Reading) × (b.reads n ≡ Some r) × (r.hub ≡ hub) × (r.reached ≡ count)

-- what it holds
abbrev pub held_in : {M T : Type 0} → CrossingNodes M T → Option (Place M) → List T
held_in crossing None = []
held_in crossing (Some p) = items_of (crossing.held p.node)

-- whether the tree with this node at its root can be joined to a part at the edge `at`
abbrev pub can_join : {M T : Type 0} → Machine M T → CrossingNodes M T → Part M → ℕ → ℕ → M → List T → Bool
can_join b crossing part at hub node queue = not (b.crosses node) && can_join_in b crossing hub queue (place_at at part.tree)

-- the part, where it was joined: at the edge is a queue again, of what the reader held and then these items
abbrev pub joined : {M T : Type 0} → CrossingNodes M T → Part M → ℕ → Part M → List T → Part M
joined crossing part at below queue = record part { tree = with_node at (crossing.queued (held_in crossing (place_at at part.tree) ++ queue) below.tree.machine) below.tree.inputs part.tree }
