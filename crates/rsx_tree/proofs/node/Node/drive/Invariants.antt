use Rattle.std.specs.Prelude.{◌≡◌, ◌+◌, ◌<◌, true, false, if◌then◌else◌}
use Rattle.rsx_tree.specs.Driven.{IsIdle}
use Rattle.rsx_tree.proofs.Drives.{IsTreeUnderWay}
use Rattle.rsx_tree.proofs.node.Node.drive.Given as goal

abbrev pub decreases-rounds : goal.decreases-rounds
decreases-rounds g l = l.left + l.left + (if l.is_done then 0 else 1)

abbrev pub invariant-rounds : goal.invariant-rounds
invariant-rounds g l =
    IsTreeUnderWay g.M.Machine (g.O.Ops.meaning l.ops) true l.fn.self l.asked l.sent l.budget l.left l.self
    × (l.is_done ≡ false → 0 < l.left)
    × (l.is_done ≡ true → 0 < l.left → IsIdle g.M.Machine (g.O.Ops.meaning l.ops) l.self l.asked l.sent)
