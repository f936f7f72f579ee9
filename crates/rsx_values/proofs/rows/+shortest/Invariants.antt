use Rattle.std.proofs.Common.{length}
use Rattle.rsx_values.proofs.rows.+shortest.Given as goal

abbrev pub decreases-shortest : goal.decreases-shortest
decreases-shortest g l = length l.values.now
