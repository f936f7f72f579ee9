use Rattle.std.proofs.Common.{rules}
use Rattle.rsx_collections.proofs.signals.PendingSignals.room.Goals as goal

pub capacity-requires : goal.capacity-requires
capacity-requires g c κs = search rules

pub returns : goal.returns
returns g c = search rules
