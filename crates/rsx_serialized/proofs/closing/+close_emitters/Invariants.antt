use Rattle.std.proofs.Common.{length}
use Rattle.std.specs.Vec.Iter.{into_iter_items}
use Rattle.rsx_serialized.proofs.closing.+close_emitters.Given as goal

abbrev pub decreases-close_emitters : goal.decreases-close_emitters
decreases-close_emitters g l = length (into_iter_items l.inlets.now)
