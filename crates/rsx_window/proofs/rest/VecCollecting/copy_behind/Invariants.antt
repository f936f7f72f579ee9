use Rattle.std.proofs.Common.{◌≡◌, ◌++◌, take}
use Rattle.rsx_window.proofs.rest.VecCollecting.copy_behind.Given as goal

abbrev pub invariant-loop-item : goal.invariant-loop-item
invariant-loop-item g l = l.self.items ≡ l.fn.self.items ++ take l.item-index l.items
