use Rattle.std.proofs.Common.{rules}
use Rattle.rsx_queued.proofs.output.Output.has_ending.Goals as goal

pub returns-in-Waiting-Complete : goal.returns-in-Waiting-Complete
returns-in-Waiting-Complete g c = search rules

pub returns-in-Waiting-Complete-2 : goal.returns-in-Waiting-Complete-2
returns-in-Waiting-Complete-2 g c = search rules

pub returns-in-Waiting-Next : goal.returns-in-Waiting-Next
returns-in-Waiting-Next g c = search rules

pub returns-in-Waiting-Next-2 : goal.returns-in-Waiting-Next-2
returns-in-Waiting-Next-2 g c = search rules

pub returns-in-Waiting-Next-3 : goal.returns-in-Waiting-Next-3
returns-in-Waiting-Next-3 g c = search rules
