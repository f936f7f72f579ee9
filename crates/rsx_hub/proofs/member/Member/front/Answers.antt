use Rattle.std.proofs.Common.{rules}
use Rattle.rsx_hub.proofs.member.Member.front.Goals as goal

pub returns : goal.returns
returns g c = search rules
