use Rattle.std.proofs.Common.{length}
use Rattle.rsx_live.proofs.workers.+all_below.Given as goal

abbrev pub decreases-all_below : goal.decreases-all_below
decreases-all_below l = length l.lists.now
