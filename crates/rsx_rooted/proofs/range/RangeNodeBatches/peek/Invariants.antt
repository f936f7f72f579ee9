use Rattle.std.proofs.Common.{◌≡◌, ◌+◌, ◌≤◌}
use Rattle.std.specs.Vec.{vec_len, vec_capacity}
use Rattle.rsx_rooted.specs.Items.{IsOut}
use Rattle.rsx_rooted.proofs.OneByOne.{IsComing}
use Rattle.rsx_rooted.specs.Machines.{range_machine}
use Rattle.rsx_rooted.proofs.range.RangeNodeBatches.peek.Given as goal

abbrev pub invariant-loop-made : goal.invariant-loop-made
invariant-loop-made g l =
    IsComing (IsOut range_machine (g.O.Ops.meaning l.ops)) l.self l.node l.items.items
    × (vec_len l.items ≡ l.made) × (l.most ≤ vec_capacity l.items)
    × (l.node.first ≡ l.self.first) × (l.node.count ≡ l.self.count) × (l.node.at ≡ l.self.at + l.made)
