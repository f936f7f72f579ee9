use Rattle.std.proofs.Common.{rules, arith}
use Rattle.std.proofs.lemmas.Grind.{common_steps}
use Rattle.rsx_queued.proofs.input.QueuedInput.put.Goals as goal

pub put-requires : goal.put-requires
put-requires g c = search rules

pub returns-in-Next-clause-state : goal.returns-in-Next-clause-state
returns-in-Next-clause-state g c = search rules

pub returns-in-Next-clause-value : goal.returns-in-Next-clause-value
returns-in-Next-clause-value g c = grind (arith, common_steps)

pub returns-in-Complete-clause-state : goal.returns-in-Complete-clause-state
returns-in-Complete-clause-state g c = search rules

pub returns-in-Complete-clause-value : goal.returns-in-Complete-clause-value
returns-in-Complete-clause-value g c = search rules

pub returns-in-Error-clause-state : goal.returns-in-Error-clause-state
returns-in-Error-clause-state g c = search rules

pub returns-in-Error-clause-value : goal.returns-in-Error-clause-value
returns-in-Error-clause-value g c = search rules
