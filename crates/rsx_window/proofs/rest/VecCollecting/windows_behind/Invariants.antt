use Rattle.std.proofs.Common.{◌≡◌, length}
use Rattle.rsx_values.specs.Prelude.{items_then, window}
use Rattle.rsx_window.proofs.rest.VecCollecting.windows_behind.Given as goal

abbrev pub invariant-loop-left : goal.invariant-loop-left
invariant-loop-left g l =
    items_then l.self.items (window (g.O.Ops.meaning l.ops) l.size l.stages (record { items = l.left; ending = l.ending })) ≡ items_then l.fn.self.items (window (g.O.Ops.meaning l.ops) l.size l.stages (record { items = l.items; ending = l.ending }))

abbrev pub decreases-loop-left : goal.decreases-loop-left
decreases-loop-left g l = length l.left
