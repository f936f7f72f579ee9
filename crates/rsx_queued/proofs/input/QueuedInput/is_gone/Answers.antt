use Rattle.std.proofs.Common.{rules}
use Rattle.rsx_queued.proofs.input.QueuedInput.is_gone.Goals as goal

pub returns-in-Taken : goal.returns-in-Taken
returns-in-Taken g c = search rules

pub returns-in-Open : goal.returns-in-Open
returns-in-Open g c = search rules
