use Rattle.std.proofs.Common.{◌≡◌, ◌+◌, ◌-◌, ◌*◌, ◌≤◌, ◌<◌, ℕ, length, map}
use Rattle.rsx_script.specs.Reading.{left, bytes_left}
use Rattle.rsx_script.specs.Orders.{tree_of}
use Rattle.rsx_script.specs.Expressions.{inputs_at, expression_at}
use Rattle.rsx_script.proofs.Lists.{inputs_behind}
use Rattle.rsx_script.proofs.expression.+expression.Given as goal

abbrev pub decreases-expression : goal.decreases-expression
decreases-expression l = 3 * bytes_left l.words.now

abbrev pub decreases-operator : goal.decreases-operator
decreases-operator l = 3 * bytes_left l.words.now + 2

abbrev pub decreases-over_one : goal.decreases-over_one
decreases-over_one l = 3 * bytes_left l.words.now + 1

abbrev pub decreases-inputs : goal.decreases-inputs
decreases-inputs l = 3 * bytes_left l.words.now + 1

abbrev pub decreases-inputs-loop-inputs : goal.decreases-inputs-loop-inputs
decreases-inputs-loop-inputs l = bytes_left l.words

abbrev pub invariant-inputs-loop-inputs : goal.invariant-inputs-loop-inputs
invariant-inputs-loop-inputs l = record {
  read : (n : ℕ) → bytes_left l.fn.words < n → inputs_behind (map tree_of l.inputs.items) (inputs_at (expression_at n) (n - length l.inputs.items) (left l.words)) ≡ inputs_at (expression_at n) n (left l.fn.words);
  most : bytes_left l.words + length l.inputs.items ≤ bytes_left l.fn.words;
}
