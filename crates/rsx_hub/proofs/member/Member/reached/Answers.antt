use Rattle.std.proofs.Common.{rules}
use Rattle.rsx_hub.proofs.member.Member.reached.Goals as goal

pub returns-clause-reached : goal.returns-clause-reached
returns-clause-reached g c = search rules
