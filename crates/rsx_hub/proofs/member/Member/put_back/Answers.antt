use Rattle.std.proofs.Common.{rules}
use Rattle.rsx_hub.proofs.member.Member.put_back.Goals as goal

pub returns-then-not-self-clause-state : goal.returns-then-not-self-clause-state
returns-then-not-self-clause-state g c = search rules

pub returns-then-not-self-clause-value : goal.returns-then-not-self-clause-value
returns-then-not-self-clause-value g c = search rules
