use Rattle.std.proofs.Common.{rules}
use Rattle.rsx_queued.proofs.tail.Tail.is_open.Goals as goal

pub returns-in-Completion : goal.returns-in-Completion
returns-in-Completion c = search rules

pub returns-in-Completion-2 : goal.returns-in-Completion-2
returns-in-Completion-2 c = search rules

pub returns-in-Completion-3 : goal.returns-in-Completion-3
returns-in-Completion-3 c = search rules
