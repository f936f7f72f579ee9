use Rattle.std.proofs.Common.{length}
use Rattle.rsx_combining.proofs.row.+all_have_items.Given as goal

abbrev pub decreases-all_have_items : goal.decreases-all_have_items
decreases-all_have_items g l = length l.inputs.now
