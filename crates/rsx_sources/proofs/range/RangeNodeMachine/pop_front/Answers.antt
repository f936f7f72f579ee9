use Rattle.std.proofs.Common.{rules}
use Rattle.rsx_sources.proofs.range.RangeNodeMachine.pop_front.Goals as goal

pub returns-clause-ok : goal.returns-clause-ok
returns-clause-ok g c = search rules
