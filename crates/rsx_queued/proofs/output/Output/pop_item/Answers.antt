use Rattle.std.proofs.Common.{rules}
use Rattle.rsx_queued.proofs.output.Output.pop_item.Goals as goal

pub returns-in-Some-Next-clause-item : goal.returns-in-Some-Next-clause-item
returns-in-Some-Next-clause-item g c = search rules

pub returns-in-Some-Next-clause-state : goal.returns-in-Some-Next-clause-state
returns-in-Some-Next-clause-state g c = search rules

pub returns-in-Some-Next-clause-out : goal.returns-in-Some-Next-clause-out
returns-in-Some-Next-clause-out g c = search rules

pub returns-in_default-pop-clause-item : goal.returns-in_default-pop-clause-item
returns-in_default-pop-clause-item g c = search rules

pub returns-in_default-pop-clause-state : goal.returns-in_default-pop-clause-state
returns-in_default-pop-clause-state g c = search rules

pub returns-in_default-clause-item : goal.returns-in_default-clause-item
returns-in_default-clause-item g c = search rules

pub returns-in_default-clause-state : goal.returns-in_default-clause-state
returns-in_default-clause-state g c = search rules
