use Rattle.std.proofs.Common.{rules}
use Rattle.rsx_prefetch.proofs.Prefetch.taken.Goals as goal

pub returns-clause-taken : goal.returns-clause-taken
returns-clause-taken g c = search rules
