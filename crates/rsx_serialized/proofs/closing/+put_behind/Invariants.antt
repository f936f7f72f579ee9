use Rattle.std.proofs.Common.{length}
use Rattle.std.specs.Vec.Iter.{into_iter_items}
use Rattle.rsx_serialized.proofs.closing.+put_behind.Given as goal

abbrev pub decreases-put_behind : goal.decreases-put_behind
decreases-put_behind g l = length (into_iter_items l.others.now)
