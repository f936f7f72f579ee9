use Rattle.std.proofs.Common.{length}
use Rattle.std.specs.Vec.Iter.{into_iter_items}
use Rattle.rsx_live_parts.proofs.kept.+come_back_each.Given as goal

abbrev pub decreases-come_back_each : goal.decreases-come_back_each
decreases-come_back_each g l = length (into_iter_items l.kept.now)
