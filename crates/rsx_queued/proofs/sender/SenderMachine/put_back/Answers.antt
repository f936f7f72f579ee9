use Rattle.std.proofs.Common.{rules}
use Rattle.rsx_queued.proofs.sender.SenderMachine.put_back.Goals as goal

pub returns-in-Crossing : goal.returns-in-Crossing
returns-in-Crossing g c = search rules
