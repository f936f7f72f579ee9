use Rattle.std.proofs.Common.{rules}
use Rattle.rsx_queued.proofs.queued.QueuedMachine.on_signal.Goals as goal

pub returns-then-not-is_open-clause-ok : goal.returns-then-not-is_open-clause-ok
returns-then-not-is_open-clause-ok g c = search rules

pub returns-then-not-is_open-clause-enabled : goal.returns-then-not-is_open-clause-enabled
returns-then-not-is_open-clause-enabled g c = search rules

pub returns-then-not-is_open-clause-err : goal.returns-then-not-is_open-clause-err
returns-then-not-is_open-clause-err g c = search rules
