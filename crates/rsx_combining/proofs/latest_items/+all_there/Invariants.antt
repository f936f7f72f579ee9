use Rattle.std.proofs.Common.{length}
use Rattle.rsx_combining.proofs.latest_items.+all_there.Given as goal

abbrev pub decreases-all_there : goal.decreases-all_there
decreases-all_there g l = length l.latest.now
