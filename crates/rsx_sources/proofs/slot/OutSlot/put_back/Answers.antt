use Rattle.std.proofs.Common.{rules}
use Rattle.rsx_sources.proofs.slot.OutSlot.put_back.Goals as goal

pub returns : goal.returns
returns g c = search rules
