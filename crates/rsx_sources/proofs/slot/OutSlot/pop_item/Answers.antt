use Rattle.std.proofs.Common.{rules}
use Rattle.rsx_sources.proofs.slot.OutSlot.pop_item.Goals as goal

pub returns-in-Some-Next-clause-none : goal.returns-in-Some-Next-clause-none
returns-in-Some-Next-clause-none g c = search rules

pub returns-in-Some-Next-clause-same : goal.returns-in-Some-Next-clause-same
returns-in-Some-Next-clause-same g c = search rules
