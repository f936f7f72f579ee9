use Rattle.std.proofs.Common.{rules}
use Rattle.rsx_queued.proofs.output.Output.pop.Goals as goal

pub returns-in-Empty-clause-signal : goal.returns-in-Empty-clause-signal
returns-in-Empty-clause-signal g c = search rules

pub returns-in-Empty-clause-state : goal.returns-in-Empty-clause-state
returns-in-Empty-clause-state g c = search rules

pub returns-in-Waiting-Next-clause-signal : goal.returns-in-Waiting-Next-clause-signal
returns-in-Waiting-Next-clause-signal g c = search rules

pub returns-in-Waiting-Next-clause-state : goal.returns-in-Waiting-Next-clause-state
returns-in-Waiting-Next-clause-state g c = search rules

pub returns-in-Waiting-Next-clause-out : goal.returns-in-Waiting-Next-clause-out
returns-in-Waiting-Next-clause-out g c = search rules

pub returns-in-Waiting : goal.returns-in-Waiting
returns-in-Waiting g c = search rules

pub returns-in-Over-clause-signal : goal.returns-in-Over-clause-signal
returns-in-Over-clause-signal g c = search rules

pub returns-in-Over-clause-state : goal.returns-in-Over-clause-state
returns-in-Over-clause-state g c = search rules
