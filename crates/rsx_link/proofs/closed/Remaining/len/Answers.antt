use Rattle.std.proofs.Common.{rules}
use Rattle.rsx_link.proofs.closed.Remaining.len.Goals as goal

pub returns : goal.returns
returns g c = search rules
