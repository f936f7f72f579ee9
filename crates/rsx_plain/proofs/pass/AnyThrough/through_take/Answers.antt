use Rattle.std.proofs.Common.{rules}
use Rattle.rsx_plain.proofs.pass.AnyThrough.through_take.Goals as goal

pub returns : goal.returns
returns g c = search rules
