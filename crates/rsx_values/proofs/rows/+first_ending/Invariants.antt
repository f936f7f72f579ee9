use Rattle.std.proofs.Common.{length}
use Rattle.rsx_values.proofs.rows.+first_ending.Given as goal

abbrev pub decreases-first_ending : goal.decreases-first_ending
decreases-first_ending g l = length l.values.now
