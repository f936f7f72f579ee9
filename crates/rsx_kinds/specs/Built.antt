-- A tree that was made for an expression.
use Rattle.std.specs.Prelude.{◌≡◌, ℕ, ◌+◌, ◌<◌, List, [], length, map, option_and_then, slice_get}
use Rattle.std.proofs.Math.ListN.{replicate}
use Rattle.rsx_hub.specs.Hub.{HubState}
use Rattle.rsx_model.specs.Eval.{environment_until_stop, meant, in_order}
use Rattle.rsx_model.specs.declared.expr.Expr.{Expr}
use Rattle.rsx_sources.specs.Prelude.{Meaning, Stream, Note, Stage}
use Rattle.rsx_plain.specs.State.{plain_start}
use Rattle.rsx_plain.specs.Node.{GivesOperator, plain_ended, start_slot}
use Rattle.rsx_plain.specs.declared.node.PlainNode.{PlainNode}
use Rattle.rsx_tree.specs.declared.inputs.Inputs.{Inputs, End}
use Rattle.rsx_tree.specs.declared.node.Node.{Node}
use Rattle.rsx_kinds.specs.Kind.{joined, first_wanted}
use Rattle.rsx_kinds.specs.declared.kind.SeveralKind.{SeveralKind}
use Rattle.rsx_tree.specs.Prelude.{IsBalanced, IsRowBalanced, sent_over, closed_row_if, comes_in, notes_of, edges as edges_in, IsRowReadAt, IsTreeReadAt}
use Rattle.rsx_tree.specs.Tree.{IsJoined, comes_out, notes, edges}
use Rattle.rsx_kinds.specs.Any.{TreeNode, any_machine}
use Rattle.rsx_kinds.specs.declared.any_node.AnyNode.TheVariants.{Plain}
use Rattle.rsx_queued.specs.declared.sender.Sender.TheVariants.{Direct}
use Rattle.rsx_sources.specs.declared.machine.Machine.{Ghosts as Machine}
use Rattle.rsx_rooted.specs.Built as OfAny
pub use Rattle.rsx_rooted.specs.Built.{AllUnrecorded, AreBegun, IsUnrecorded, StandAt, begins_ended, counts_of, first_wants, fresh_below, fresh_beside, fresh_edge, fresh_edges, fresh_wants, in_a_row, join_at, join_here, joins_now, leaf_joins, new_joins, prefetch_of, starts_ended, wants_beside}

-- what a tree is that has just begun, at the kinds that there are
abbrev pub IsBuilt : {T : Type 0} → Meaning T → List (HubState T) → Expr T → Node (TreeNode T) → Type 0
IsBuilt m hubs e t = OfAny.IsBuilt any_machine m hubs e t

-- a node wants this number first of each of so many inputs, from input `i` on
abbrev pub WantsOfEach : {M T : Type 0} → Machine M T → M → ℕ → ℕ → ℕ → Type 0
WantsOfEach b n i count p = (k : ℕ) → k < count → b.wanted n (i + k) 0 0 ≡ p

-- the tree of a fresh plain operator over another one
pub record IsPlainOver {T : Type 0} (g : Stage T) (below t : Node (TreeNode T)) : Type 0 where
  pub node : PlainNode T
  pub row : Inputs (TreeNode T)
  pub fresh : GivesOperator node g
  pub state : node.state ≡ plain_start g
  pub slot : node.slot ≡ start_slot g
  pub joined : IsJoined below End row
  pub machine : t.machine ≡ Direct (Plain node)
  pub inputs : t.inputs ≡ closed_row_if (plain_ended node) row

-- ---- the inputs of a node

-- where the leaves of these expressions join the hubs now, from left to right
abbrev pub new_joins_of : {T : Type 0} → List (HubState T) → List (Expr T) → List ℕ
new_joins_of hubs es = in_a_row (map (new_joins hubs) es)

-- a row of trees that was made for these expressions: what comes in is what they mean, side by side. Nothing went over an edge
-- yet, and whatever node takes the row, what is wanted below it is as the expressions say, and the counts are balanced
pub record AreBuilt {T : Type 0} (m : Meaning T) (hubs : List (HubState T)) (es : List (Expr T)) (row : Inputs (TreeNode T)) : Type 0 where
  pub values : (whole : List (Stream T)) (joins : List ℕ) (further : List Note) (at leaf : ℕ) → AreBegun hubs whole → StandAt joins leaf (new_joins_of hubs es) →
      comes_in any_machine m whole further row at ≡ in_order (map (meant (environment_until_stop m whole joins further)) es) at leaf
  pub reads : IsRowReadAt any_machine (counts_of hubs) row
  pub alone : new_joins_of hubs es ≡ [] → IsRowReadAt any_machine [] row
  pub notes : AllUnrecorded (notes_of any_machine row)
  pub edges : edges_in row ≡ fresh_beside (map fresh_edges es)
  pub wants : (n : TreeNode T) (i p : ℕ) → WantsOfEach any_machine n i (length es) p → first_wants any_machine n i row ≡ wants_beside p (map fresh_wants es)
  pub sent : sent_over row ≡ replicate (length es) 0
  pub balance : (n : TreeNode T) (i : ℕ) → IsRowBalanced any_machine n i row

-- the tree of a node of this kind over those of these expressions: what comes out is the operator of what they mean, side by
-- side, under what the node recorded; the rest is as for the tree of one expression
pub record IsBuiltOver {T : Type 0} (m : Meaning T) (hubs : List (HubState T)) (kind : SeveralKind) (es : List (Expr T)) (t : Node (TreeNode T)) : Type 0 where
  pub value : (whole : List (Stream T)) (joins : List ℕ) (further : List Note) (at leaf : ℕ) → AreBegun hubs whole → StandAt joins leaf (new_joins_of hubs es) →
      comes_out any_machine m whole further t at
      ≡ option_and_then (λ k. option_and_then (joined m kind k) (in_order (map (meant (environment_until_stop m whole joins further)) es) (at + 1) leaf)) (slice_get further at)
  pub reads : IsTreeReadAt any_machine (counts_of hubs) t
  pub alone : new_joins_of hubs es ≡ [] → IsTreeReadAt any_machine [] t
  pub notes : AllUnrecorded (notes any_machine t)
  pub edges : edges t ≡ fresh_beside (map fresh_edges es)
  -- it wants of each input what it wants of its first
  pub wants : first_wants any_machine t.machine 0 t.inputs ≡ wants_beside (first_wanted kind 0 0) (map fresh_wants es)
  pub balance : IsBalanced any_machine t 0
