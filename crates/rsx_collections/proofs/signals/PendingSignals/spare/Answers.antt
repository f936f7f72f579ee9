use Rattle.std.proofs.Common.{rules}
use Rattle.rsx_collections.proofs.signals.PendingSignals.spare.Goals as goal

pub room-requires : goal.room-requires
room-requires g c κs = search rules

pub returns-then-room : goal.returns-then-room
returns-then-room g c = search rules

pub with_room-requires : goal.with_room-requires
with_room-requires g c κs = search rules

pub branch-spare-requires : goal.branch-spare-requires
branch-spare-requires g c κs = search rules

pub returns-in_err-spare : goal.returns-in_err-spare
returns-in_err-spare g c = search rules

pub returns : goal.returns
returns g c = search rules
