use Rattle.std.proofs.Common.{length}
use Rattle.std.specs.Vec.Iter.{into_iter_items}
use Rattle.rsx_live_parts.proofs.kept.Parted.+add_each.Given as goal

abbrev pub decreases-add_each : goal.decreases-add_each
decreases-add_each g l = length (into_iter_items l.subs.now)
