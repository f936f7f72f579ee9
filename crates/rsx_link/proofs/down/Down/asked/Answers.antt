use Rattle.std.proofs.Common.{rules}
use Rattle.rsx_link.proofs.down.Down.asked.Goals as goal

pub returns : goal.returns
returns g c = search rules
