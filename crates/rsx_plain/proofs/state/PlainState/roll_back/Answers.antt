use Rattle.std.proofs.Common.{arith, rules}
use Rattle.rsx_plain.proofs.Prepares.{popped_list, popped_item}
use Rattle.rsx_plain.proofs.state.PlainState.roll_back.Goals as goal

pub returns-in-Nothing-clause-state : goal.returns-in-Nothing-clause-state
returns-in-Nothing-clause-state g c = search rules

pub returns-in-Nothing-clause-item : goal.returns-in-Nothing-clause-item
returns-in-Nothing-clause-item g c = search rules

pub returns-in-Kept-clause-state : goal.returns-in-Kept-clause-state
returns-in-Kept-clause-state g c = search rules

pub returns-in-Kept-clause-item : goal.returns-in-Kept-clause-item
returns-in-Kept-clause-item g c = search rules

pub returns-in-Accumulated-clause-state : goal.returns-in-Accumulated-clause-state
returns-in-Accumulated-clause-state g c = search rules

pub returns-in-Accumulated-clause-item : goal.returns-in-Accumulated-clause-item
returns-in-Accumulated-clause-item g c = search rules

pub returns-in-Distinct-clause-item : goal.returns-in-Distinct-clause-item
returns-in-Distinct-clause-item g c = search rules

pub returns-in_default : goal.returns-in_default
returns-in_default g c = search rules

pub returns : goal.returns
returns g c = search rules

pub returns-in-Distinct-clause-state : goal.returns-in-Distinct-clause-state
returns-in-Distinct-clause-state g c = grind (arith, popped_list, popped_item)
