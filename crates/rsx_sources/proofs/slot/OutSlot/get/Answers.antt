use Rattle.std.proofs.Common.{rules}
use Rattle.rsx_sources.proofs.slot.OutSlot.get.Goals as goal

pub returns-in-0-clause-most : goal.returns-in-0-clause-most
returns-in-0-clause-most g c = search rules

pub returns-in-1-clause-signal : goal.returns-in-1-clause-signal
returns-in-1-clause-signal g c = search rules

pub returns-in-1-clause-most : goal.returns-in-1-clause-most
returns-in-1-clause-most g c = search rules

pub returns-in_default-clause-signal : goal.returns-in_default-clause-signal
returns-in_default-clause-signal g c = search rules

pub returns-in_default-clause-most : goal.returns-in_default-clause-most
returns-in_default-clause-most g c = search rules
