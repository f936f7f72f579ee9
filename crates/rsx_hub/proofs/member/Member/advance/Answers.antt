use Rattle.std.proofs.Common.{rules}
use Rattle.rsx_hub.proofs.member.Member.advance.Goals as goal

pub returns-in-Some-clause-signal : goal.returns-in-Some-clause-signal
returns-in-Some-clause-signal g c = search rules

pub returns-in-Some-clause-state : goal.returns-in-Some-clause-state
returns-in-Some-clause-state g c = search rules

pub returns-in-Some-clause-value : goal.returns-in-Some-clause-value
returns-in-Some-clause-value g c = search rules

pub returns-in-Some-clause-given : goal.returns-in-Some-clause-given
returns-in-Some-clause-given g c = search rules

pub returns-in-None-clause-state : goal.returns-in-None-clause-state
returns-in-None-clause-state g c = search rules

pub returns-in-None-clause-value : goal.returns-in-None-clause-value
returns-in-None-clause-value g c = search rules

pub returns-in-None-clause-given : goal.returns-in-None-clause-given
returns-in-None-clause-given g c = search rules
