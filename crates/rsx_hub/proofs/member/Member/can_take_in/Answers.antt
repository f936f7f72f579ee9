use Rattle.std.proofs.Common.{rules}
use Rattle.rsx_hub.proofs.member.Member.can_take_in.Goals as goal

pub returns-then-len-self-clause-room : goal.returns-then-len-self-clause-room
returns-then-len-self-clause-room g c = search rules
