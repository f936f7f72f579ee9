use Rattle.std.proofs.Common.{rules}
use Rattle.rsx_queued.proofs.sender.SenderMachine.front.Goals as goal

pub returns-in-Crossing-clause-shown : goal.returns-in-Crossing-clause-shown
returns-in-Crossing-clause-shown g c = search rules

pub returns-in-Crossing-clause-first : goal.returns-in-Crossing-clause-first
returns-in-Crossing-clause-first g c = search rules
