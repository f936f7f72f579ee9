use Rattle.std.proofs.Common.{rules}
use Rattle.rsx_sources.proofs.range.RangeNodeMachine.pop_item.Goals as goal

pub returns-in-Ok-clause-some : goal.returns-in-Ok-clause-some
returns-in-Ok-clause-some g c = search rules
