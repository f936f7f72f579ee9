use Rattle.std.proofs.Common.{rules}
use Rattle.rsx_sources.proofs.range.RangeNodeMachine.next_pick.Goals as goal

pub returns-clause-some : goal.returns-clause-some
returns-clause-some g c = search rules
