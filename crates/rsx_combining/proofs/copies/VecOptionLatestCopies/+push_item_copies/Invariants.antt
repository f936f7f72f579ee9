use Rattle.std.proofs.Common.{length}
use Rattle.rsx_combining.proofs.copies.VecOptionLatestCopies.+push_item_copies.Given as goal

abbrev pub decreases-push_item_copies : goal.decreases-push_item_copies
decreases-push_item_copies g l = length l.items.now
