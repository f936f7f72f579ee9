use Rattle.std.proofs.Common.{length}
use Rattle.std.specs.Vec.Iter.{into_iter_items}
use Rattle.rsx_serialized.proofs.closing.+close_taps.Given as goal

abbrev pub decreases-close_taps : goal.decreases-close_taps
decreases-close_taps g l = length (into_iter_items l.taps.now)
