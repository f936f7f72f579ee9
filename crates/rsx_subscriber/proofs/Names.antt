-- A move inside a tree and its name.
use Rattle.std.specs.Prelude.{⊤}
use Rattle.std.proofs.Common.{◌≡◌, zero, suc, true, false, refl, arith, subst, Option, Some, None}
use Rattle.rsx_sources.specs.Prelude.{Move, Ask, Send, Take, Pick, Row, Accept, Tree}
use Rattle.rsx_pipe.specs.Part as Part
use Rattle.rsx_rooted.specs.declared.nodes.Route.{Route}
use Rattle.rsx_rooted.specs.declared.nodes.Route.TheVariants.{Straight, Queued, Recorded}
use Rattle.rsx_tree.specs.declared.look.NodeMove.{NodeMove}
use Rattle.rsx_tree.specs.declared.look.NodeMove.TheVariants.{Ask as NodeAsk, Send as NodeSend, Pick as NodePick, Row as NodeRow}
use Rattle.rsx_subscriber.specs.Moves.{IsNumbered, inside_node, name_of, node_move, node_of, tree_of}

-- ---- what a name says

pub name_tree : (r : Route) (t : Tree) (s : NodeMove) → tree_of (name_of r t s) ≡ t
name_tree r t (NodeAsk n) = refl
name_tree Straight t (NodeSend n) = refl
name_tree (Queued b) t (NodeSend n) = refl
name_tree Recorded t (NodeSend n) = refl
name_tree Straight t (NodePick n i) = refl
name_tree (Queued b) t (NodePick n i) = refl
name_tree Recorded t (NodePick n zero) = refl
name_tree Recorded t (NodePick n (suc i)) = refl
name_tree Straight t (NodeRow n) = refl
name_tree (Queued true) t (NodeRow n) = refl
name_tree (Queued false) t (NodeRow n) = refl
name_tree Recorded t (NodeRow n) = refl

pub name_node : (r : Route) (t : Tree) (s : NodeMove) → node_of (name_of r t s) ≡ inside_node s
name_node r t (NodeAsk n) = refl
name_node Straight t (NodeSend n) = refl
name_node (Queued b) t (NodeSend n) = refl
name_node Recorded t (NodeSend n) = refl
name_node Straight t (NodePick n i) = refl
name_node (Queued b) t (NodePick n i) = refl
name_node Recorded t (NodePick n zero) = refl
name_node Recorded t (NodePick n (suc i)) = refl
name_node Straight t (NodeRow n) = refl
name_node (Queued true) t (NodeRow n) = refl
name_node (Queued false) t (NodeRow n) = refl
name_node Recorded t (NodeRow n) = refl

pub name_move : (r : Route) (t : Tree) (s : NodeMove) → node_move r (name_of r t s) ≡ Some s
name_move r t (NodeAsk n) = refl
name_move Straight t (NodeSend n) = refl
name_move (Queued b) t (NodeSend n) = refl
name_move Recorded t (NodeSend n) = refl
name_move Straight t (NodePick n i) = refl
name_move (Queued b) t (NodePick n i) = refl
name_move Recorded t (NodePick n zero) = refl
name_move Recorded t (NodePick n (suc i)) = refl
name_move Straight t (NodeRow n) = refl
name_move (Queued true) t (NodeRow n) = refl
name_move (Queued false) t (NodeRow n) = refl
name_move Recorded t (NodeRow n) = refl

-- ---- a move inside a tree has the numbers of its name

abbrev AreNumbered : Option NodeMove → Type 0
AreNumbered None = ⊤
AreNumbered (Some s) = Part.IsNumbered s

all_numbered : (r : Route) (mv : Move) → IsNumbered mv → AreNumbered (node_move r mv)
all_numbered r (Ask t n) h = h
all_numbered Straight (Send t n) h = h
all_numbered (Queued true) (Send t n) h = h
all_numbered (Queued false) (Send t n) h = tt
all_numbered Recorded (Send t n) h = (h, omega arith)
all_numbered Straight (Take t n) h = tt
all_numbered (Queued b) (Take t n) h = h
all_numbered Recorded (Take t n) h = h
all_numbered Straight (Pick t n i) h = h
all_numbered (Queued b) (Pick t n i) h = h
all_numbered Recorded (Pick t n zero) h = tt
all_numbered Recorded (Pick t n (suc i)) h = h
all_numbered Straight (Row t n) h = h
all_numbered (Queued true) (Row t n) h = tt
all_numbered (Queued false) (Row t n) h = h
all_numbered Recorded (Row t n) h = h
all_numbered r (Accept i) h = tt

pub numbered_inside : (r : Route) (mv : Move) (s : NodeMove) → node_move r mv ≡ Some s → IsNumbered mv → Part.IsNumbered s
numbered_inside r mv s e h = subst AreNumbered e (all_numbered r mv h)

-- and a name those of the move
pub numbered_name : (r : Route) (t : Tree) (s : NodeMove) → Part.IsNumbered s → IsNumbered (name_of r t s)
numbered_name r t (NodeAsk n) h = h
numbered_name Straight t (NodeSend n) h = h
numbered_name (Queued b) t (NodeSend n) h = h
numbered_name Recorded t (NodeSend n) h = h
numbered_name Straight t (NodePick n i) h = h
numbered_name (Queued b) t (NodePick n i) h = h
numbered_name Recorded t (NodePick n zero) h = h.0
numbered_name Recorded t (NodePick n (suc i)) h = h
numbered_name Straight t (NodeRow n) h = h
numbered_name (Queued true) t (NodeRow n) h = h
numbered_name (Queued false) t (NodeRow n) h = h
numbered_name Recorded t (NodeRow n) h = h
