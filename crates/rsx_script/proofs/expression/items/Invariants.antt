use Rattle.std.proofs.Common.{◌≡◌, ◌≤◌}
use Rattle.rsx_script.specs.Reading.{left, bytes_left}
use Rattle.rsx_script.specs.Expressions.{items_at}
use Rattle.rsx_script.proofs.Lists.{items_behind}
use Rattle.rsx_script.proofs.expression.items.Given as goal

abbrev pub decreases-loop-items : goal.decreases-loop-items
decreases-loop-items l = bytes_left l.words

abbrev pub invariant-loop-items : goal.invariant-loop-items
invariant-loop-items l = record {
  read : items_behind l.items.items (items_at (left l.words)) ≡ items_at (left l.fn.words);
  most : bytes_left l.words ≤ bytes_left l.fn.words;
}
