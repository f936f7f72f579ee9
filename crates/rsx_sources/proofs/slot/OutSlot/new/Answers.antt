use Rattle.std.proofs.Common.{rules}
use Rattle.rsx_sources.proofs.slot.OutSlot.new.Goals as goal

pub returns : goal.returns
returns g c = search rules
