use Rattle.std.proofs.Common.{length}
use Rattle.rsx_combining.proofs.values.VecStreamValueToCome.+push_lefts.Given as goal

abbrev pub decreases-push_lefts : goal.decreases-push_lefts
decreases-push_lefts g l = length l.inputs.now
