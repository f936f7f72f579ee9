use Rattle.std.proofs.Common.{rules}
use Rattle.rsx_queued.proofs.input.QueuedInput.new.Goals as goal

pub new-requires-clause-positive : goal.new-requires-clause-positive
new-requires-clause-positive g c = search rules

pub new-requires-clause-within : goal.new-requires-clause-within
new-requires-clause-within g c = search rules

pub returns-in_err-queue : goal.returns-in_err-queue
returns-in_err-queue g c = search rules

pub returns : goal.returns
returns g c = search rules
