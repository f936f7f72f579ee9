use Rattle.std.proofs.Common.{rules}
use Rattle.rsx_sources.proofs.slot.OutSlot.pop.Goals as goal

pub returns-then-is_some-clause-after : goal.returns-then-is_some-clause-after
returns-then-is_some-clause-after g c = search rules
