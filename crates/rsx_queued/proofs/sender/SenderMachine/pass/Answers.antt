use Rattle.rsx_queued.proofs.Senders.{passed_direct}
use Rattle.rsx_queued.proofs.sender.SenderMachine.pass.Goals as goal

pub returns-in-Direct-clause-passed : goal.returns-in-Direct-clause-passed
returns-in-Direct-clause-passed g c =
    rw c.in-Direct.is (passed_direct g.M.Machine (g.O.Ops.meaning c.args.ops.now) c.in-Direct.node c.pass.new.self c.args.input c.args.item c.pass.result c.pass.ensures.passed)
