use Rattle.std.proofs.Common.{◌≡◌, ◌+◌, ◌-◌, ◌<◌, ◌≤◌, ℕ, length}
use Rattle.rsx_script.specs.Reading.{left, bytes_left}
use Rattle.rsx_script.specs.Expressions.{stages_at}
use Rattle.rsx_script.proofs.Stages.{stages_behind}
use Rattle.rsx_script.proofs.expression.stages.Given as goal

abbrev pub decreases-loop-stages : goal.decreases-loop-stages
decreases-loop-stages l = bytes_left l.words

abbrev pub invariant-loop-stages : goal.invariant-loop-stages
invariant-loop-stages l = record {
  read : (n : ℕ) → bytes_left l.fn.words < n → stages_behind l.stages.items (stages_at (n - length l.stages.items) (left l.words)) ≡ stages_at n (left l.fn.words);
  most : bytes_left l.words + length l.stages.items ≤ bytes_left l.fn.words;
}
