use Rattle.std.proofs.Common.{rules}
use Rattle.rsx_combining.proofs.latest.CombineLatestNodeMachine.can_pick.Goals as goal

pub returns-then-not-is_empty : goal.returns-then-not-is_empty
returns-then-not-is_empty g c = search rules

pub returns-then-sent-asked : goal.returns-then-sent-asked
returns-then-sent-asked g c = search rules

pub returns-else-sent-asked : goal.returns-else-sent-asked
returns-else-sent-asked g c = search rules

pub returns-in-Some-Completion : goal.returns-in-Some-Completion
returns-in-Some-Completion g c = search rules

pub returns-in-Some-Completion-2 : goal.returns-in-Some-Completion-2
returns-in-Some-Completion-2 g c = search rules

pub returns-in-None : goal.returns-in-None
returns-in-None g c = search rules
