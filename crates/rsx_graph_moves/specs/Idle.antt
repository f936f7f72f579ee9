-- An idle tree of which more is asked than it sent.
use Rattle.std.specs.Prelude.{◌≡◌, ◌+◌, ◌<◌, ◌^◌, Some, None}
use Rattle.rsx_sources.specs.Prelude.{Meaning}
use Rattle.rsx_sources.specs.declared.machine.Machine.{Ghosts as Machine}
use Rattle.rsx_tree.specs.declared.edge.Edge.{Edge}
use Rattle.rsx_tree.specs.declared.edge.EdgeState.TheVariants.{Live}
use Rattle.rsx_tree.specs.declared.node.Node.{Node}
use Rattle.rsx_tree.specs.Balance.{IsBalanced, IsWithin}
use Rattle.rsx_tree.specs.Driven.{IsIdle}
use Rattle.rsx_tree.specs.Inputs.{size}
use Rattle.rsx_tree.specs.Stepped.{IsStill, over}

-- more is asked over the tree's own edge, which is live, than was sent, and its root offers nothing; no move of it is enabled, its
-- counts are balanced, and no edge has carried 2^63-1 items
pub record LacksAll {M T : Type 0} (b : Machine M T) (m : Meaning T) (root : Edge) (t : Node M) : Type 0 where
  pub live : root.state ≡ Live
  pub more : root.demand.sent < root.demand.asked
  pub nothing : b.waiting m t.machine ≡ None
  pub idle : IsIdle b m t root.demand.asked root.demand.sent
  pub still : IsStill b (Some (over root t.machine))
  pub balanced : IsBalanced b t root.demand.sent
  pub within : IsWithin t
  pub few : size t.inputs + 1 < 2 ^ 32
