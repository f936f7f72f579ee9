use Rattle.std.proofs.Common.{rules}
use Rattle.rsx_collections.proofs.signals.PendingSignals.with_room.Goals as goal

pub with_capacity-requires : goal.with_capacity-requires
with_capacity-requires g c κs = search rules

pub branch-reversed-requires : goal.branch-reversed-requires
branch-reversed-requires g c κs = search rules

pub from_residual-requires : goal.from_residual-requires
from_residual-requires g c κs = search rules

pub returns-in_err-reversed : goal.returns-in_err-reversed
returns-in_err-reversed g c = search rules

pub returns : goal.returns
returns g c = search rules
