use Rattle.std.proofs.Common.{rules}
use Rattle.rsx_sources.proofs.slot.OutSlot.put.Goals as goal

pub returns-else-is_empty : goal.returns-else-is_empty
returns-else-is_empty g c = search rules
