use Rattle.std.proofs.Common.{rules}
use Rattle.rsx_sources.proofs.range.RangeNodeMachine.can_take.Goals as goal

pub returns : goal.returns
returns g c = search rules
