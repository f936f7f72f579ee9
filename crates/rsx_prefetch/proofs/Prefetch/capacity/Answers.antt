use Rattle.std.proofs.Common.{rules}
use Rattle.rsx_prefetch.proofs.Prefetch.capacity.Goals as goal

pub returns-clause-capacity : goal.returns-clause-capacity
returns-clause-capacity g c = search rules
