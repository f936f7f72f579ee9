use Rattle.std.proofs.Common.{◌≡◌, ◌≤◌}
use Rattle.std.specs.Vec.{vec_len, vec_capacity}
use Rattle.rsx_rooted.specs.Items.{IsOut}
use Rattle.rsx_rooted.proofs.HubLeaves.{leaf_machine}
use Rattle.rsx_rooted.proofs.OneByOne.{IsComing}
use Rattle.rsx_rooted.proofs.hub_leaf.HubLeafBatches.take_out.Given as goal

abbrev pub invariant-loop-gone : goal.invariant-loop-gone
invariant-loop-gone g l =
    IsComing (IsOut leaf_machine (g.O.Ops.meaning l.ops)) l.fn.self l.self l.out.items
    × (vec_len l.out ≡ l.gone) × (l.fewer ≤ vec_capacity l.out)
