use Rattle.std.specs.Prelude.{◌≡◌, ◌+◌, ◌<◌, true, false, if◌then◌else◌}
use Rattle.rsx_tree.specs.Inputs.{size}
use Rattle.rsx_tree.specs.declared.inputs.Inputs.TheViews.{More}
use Rattle.rsx_tree.proofs.Drives.{IsUnderWay, IsDone}
use Rattle.rsx_tree.proofs.inputs.Inputs.+drive.Given as goal

abbrev pub decreases-drive : goal.decreases-drive
decreases-drive g l = size l.self.now

abbrev pub decreases-moves : goal.decreases-moves
decreases-moves g l = l.left + l.left + (if l.is_done then 0 else 1)

abbrev pub invariant-moves : goal.invariant-moves
invariant-moves g l =
    IsUnderWay g.M.Machine (g.O.Ops.meaning l.ops) true l.input l.asked l.sent l.budget l.fn.receiver l.fn.self l.left l.receiver (More l.edge l.machine l.below l.beside)
    × (size l.below.value + size l.beside.value + 1 ≡ size l.fn.self)
    × (l.is_done ≡ false → 0 < l.left)
    × (l.is_done ≡ true → 0 < l.left → l.left ≡ l.budget → IsDone g.M.Machine (g.O.Ops.meaning l.ops) l.receiver l.input l.asked l.sent l.edge l.machine l.below.value)
