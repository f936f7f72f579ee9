use Rattle.std.proofs.Common.{rules}
use Rattle.rsx_hub.proofs.hub.Hub.len.Goals as goal

pub returns : goal.returns
returns g c = search rules
