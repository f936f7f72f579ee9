use Rattle.std.proofs.Common.{rules}
use Rattle.rsx_collections.proofs.signals.PendingSignals.take_over.Goals as goal

pub drop-self-requires : goal.drop-self-requires
drop-self-requires g c κs = search rules

pub returns-in-Some : goal.returns-in-Some
returns-in-Some g c = search rules

pub returns-in_default : goal.returns-in_default
returns-in_default g c = search rules
