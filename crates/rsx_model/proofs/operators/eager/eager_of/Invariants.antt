use Rattle.std.proofs.Common.{◌≡◌, ◌-◌, drop, length}
use Rattle.rsx_values.specs.Eager.{eager_of}
use Rattle.rsx_model.proofs.Overtaking.{eager_on}
use Rattle.rsx_model.proofs.operators.eager.eager_of.Given as goal

abbrev pub decreases-loop-taken : goal.decreases-loop-taken
decreases-loop-taken g l = length l.choices - l.taken

abbrev pub invariant-loop-taken : goal.invariant-loop-taken
invariant-loop-taken g l = eager_on l.taken (drop l.taken l.choices) l.value.items l.value.ending ≡ eager_of l.fn.choices l.fn.value
