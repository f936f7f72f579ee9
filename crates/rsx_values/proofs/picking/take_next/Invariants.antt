use Rattle.std.proofs.Common.{◌≡◌, take, length, ◌-◌}
use Rattle.rsx_values.proofs.Places.{NotAmong}
use Rattle.rsx_values.proofs.picking.take_next.Given as goal

abbrev pub decreases-loop-at : goal.decreases-loop-at
decreases-loop-at g l = length l.inputs.items - l.at

abbrev pub invariant-loop-at : goal.invariant-loop-at
invariant-loop-at g l = record {
  same : l.inputs.items ≡ l.fn.inputs.items;
  earlier : NotAmong l.choice (take l.at l.inputs.items);
}
