use Rattle.std.proofs.Common.{rules}
use Rattle.rsx_prefetch.proofs.Prefetch.get.Goals as goal

pub returns : goal.returns
returns g c = search rules
