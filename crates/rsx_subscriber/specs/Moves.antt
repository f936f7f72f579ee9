-- The tree and the node that a move of a graph names, and which move inside the tree that is.
use Rattle.std.specs.Prelude.{◌<◌, ◌^◌, ℕ, zero, suc, true, false, Option, Some, None}
use Rattle.rsx_sources.specs.Prelude.{Move, Ask, Send, Take, Pick, Row, Accept, SubId, Tree, Sub, Feed}
use Rattle.rsx_rooted.specs.declared.nodes.Route.{Route}
use Rattle.rsx_rooted.specs.declared.nodes.Route.TheVariants.{Straight, Queued, Recorded}
use Rattle.rsx_tree.specs.declared.look.NodeMove.{NodeMove}
use Rattle.rsx_tree.specs.declared.look.NodeMove.TheVariants.{Ask as NodeAsk, Send as NodeSend, Pick as NodePick, Row as NodeRow}

-- the tree in which a move is made: an Accept is in no subscription's tree
abbrev pub tree_of : Move → Tree
tree_of (Ask t n) = t
tree_of (Send t n) = t
tree_of (Take t n) = t
tree_of (Pick t n i) = t
tree_of (Row t n) = t
tree_of (Accept h) = Feed h

-- the node in that tree, whose output edge has the same number
abbrev pub node_of : Move → ℕ
node_of (Ask t n) = n.0
node_of (Send t n) = n.0
node_of (Take t n) = n.0
node_of (Pick t n i) = n.0
node_of (Row t n) = n.0
node_of (Accept h) = 0

-- the Take from the root edge of a subscription, which delivers
abbrev pub delivery : SubId → Move
delivery i = Take (Sub i) (record { 0 = 0 })

-- the numbers that a move names are numbers of a node, of an input, or of a hub
abbrev pub IsNumbered : Move → Type 0
IsNumbered (Ask t n) = n.0 < 2 ^ 32
IsNumbered (Send t n) = n.0 < 2 ^ 32
IsNumbered (Take t n) = n.0 < 2 ^ 32
IsNumbered (Pick t n i) = (n.0 < 2 ^ 32) × (i < 2 ^ 64)
IsNumbered (Row t n) = n.0 < 2 ^ 32
IsNumbered (Accept h) = h.0 < 2 ^ 32

-- ---- the move inside the tree, where the edge of the named node goes so

-- a Send of the node `n`: over a straight edge, or into the queue of an edge that crosses. The queue belongs to the node, so to the
-- tree that is a row of the node, or a pick of its input 0 where the node records what it sends
abbrev pub send_by : Route → ℕ → Option NodeMove
send_by Straight n = Some (NodeSend n)
send_by (Queued true) n = Some (NodeRow n)
send_by (Queued false) n = None
send_by Recorded n = Some (NodePick n 0)

-- a Take out of that queue, by which a signal goes over the edge of the tree
abbrev pub take_by : Route → ℕ → Option NodeMove
take_by Straight n = None
take_by (Queued b) n = Some (NodeSend n)
take_by Recorded n = Some (NodeSend n)

-- a row of the node itself; a node makes none while it has a signal to send
abbrev pub row_by : Route → ℕ → Option NodeMove
row_by Straight n = Some (NodeRow n)
row_by (Queued true) n = None
row_by (Queued false) n = Some (NodeRow n)
row_by Recorded n = Some (NodeRow n)

-- a pick of the node itself; that of input 0 is its Send where it records what it sends
abbrev pub pick_by : Route → ℕ → ℕ → Option NodeMove
pick_by Straight n i = Some (NodePick n i)
pick_by (Queued b) n i = Some (NodePick n i)
pick_by Recorded n zero = None
pick_by Recorded n (suc i) = Some (NodePick n (suc i))

-- none where the move is no move inside the tree: an Accept is a hub's
abbrev pub node_move : Route → Move → Option NodeMove
node_move r (Ask t n) = Some (NodeAsk n.0)
node_move r (Send t n) = send_by r n.0
node_move r (Take t n) = take_by r n.0
node_move r (Pick t n i) = pick_by r n.0 i
node_move r (Row t n) = row_by r n.0
node_move r (Accept h) = None

-- ---- the name of a move inside the tree

abbrev pub send_as : Route → Tree → ℕ → Move
send_as Straight t n = Send t (record { 0 = n })
send_as (Queued b) t n = Take t (record { 0 = n })
send_as Recorded t n = Take t (record { 0 = n })

abbrev pub row_as : Route → Tree → ℕ → Move
row_as Straight t n = Row t (record { 0 = n })
row_as (Queued true) t n = Send t (record { 0 = n })
row_as (Queued false) t n = Row t (record { 0 = n })
row_as Recorded t n = Row t (record { 0 = n })

abbrev pub pick_as : Route → Tree → ℕ → ℕ → Move
pick_as Straight t n i = Pick t (record { 0 = n }) i
pick_as (Queued b) t n i = Pick t (record { 0 = n }) i
pick_as Recorded t n zero = Send t (record { 0 = n })
pick_as Recorded t n (suc i) = Pick t (record { 0 = n }) (suc i)

abbrev pub name_of : Route → Tree → NodeMove → Move
name_of r t (NodeAsk n) = Ask t (record { 0 = n })
name_of r t (NodeSend n) = send_as r t n
name_of r t (NodePick n i) = pick_as r t n i
name_of r t (NodeRow n) = row_as r t n

-- the node of such a move
abbrev pub inside_node : NodeMove → ℕ
inside_node (NodeAsk n) = n
inside_node (NodeSend n) = n
inside_node (NodePick n i) = n
inside_node (NodeRow n) = n
