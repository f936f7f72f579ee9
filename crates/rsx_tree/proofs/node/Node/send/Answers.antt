use Rattle.rsx_tree.proofs.Alike.{sent_alike}
use Rattle.rsx_tree.proofs.Balances.{tree_send_balanced}
use Rattle.std.proofs.Common.{◌&&◌, rules}
use Rattle.rsx_tree.proofs.Popped.{chosen_sent}
use Rattle.rsx_tree.proofs.Trees.{can_sent, received_effect, sent_effect}
use Rattle.rsx_tree.proofs.node.Node.send.Goals as goal

pub returns-in-Ok-clause-chosen : goal.returns-in-Ok-clause-chosen
returns-in-Ok-clause-chosen g c =
    chosen_sent g.M.Machine (g.O.Ops.meaning c.args.ops.now) c.args.self.now.machine c.send.new.receiver c.args.at c.args.self.now.inputs c.send.new.self c.close_if.new.self (c.has_ended.result && c.in-Ok.own) (c.in-Ok.ensures.made 0 0) c.close_if.ensures.row

pub returns-in-Ok-clause-ok : goal.returns-in-Ok-clause-ok
returns-in-Ok-clause-ok g c = can_sent g.M.Machine (g.O.Ops.meaning c.args.ops.now) c.args.self.now.machine c.send.new.receiver c.args.at c.args.self.now.inputs c.send.new.self (c.in-Ok.ensures.made 0 0)

pub returns-in-Ok-clause-effect : goal.returns-in-Ok-clause-effect
returns-in-Ok-clause-effect g c =
    sent_effect g.M.Machine (g.O.Ops.meaning c.args.ops.now) c.args.self.now.machine c.send.new.receiver c.args.at c.args.self.now.inputs c.send.new.self c.close_if.new.self (c.in-Ok.ensures.made 0 0) (search rules)

pub returns-in-Ok-clause-received : goal.returns-in-Ok-clause-received
returns-in-Ok-clause-received g c =
    received_effect g.M.Machine (g.O.Ops.meaning c.args.ops.now) c.args.self.now.machine c.send.new.receiver c.args.at c.args.self.now.inputs c.send.new.self c.close_if.new.self (c.in-Ok.ensures.received 0 0) (search rules)

pub returns-in-Err-clause-err : goal.returns-in-Err-clause-err
returns-in-Err-clause-err g c = c.in-Err.ensures.err 0 0

pub returns-in-Ok-clause-balance : goal.returns-in-Ok-clause-balance
returns-in-Ok-clause-balance g c = λ s k.
    tree_send_balanced g.M.Machine (g.O.Ops.meaning c.args.ops.now) c.args.self.now.machine c.send.new.receiver 0 0 c.args.self.now.inputs c.args.at c.send.new.self c.close_if.new.self s (c.in-Ok.ensures.made 0 0) (search rules) k

pub returns-in-Ok-clause-alike : goal.returns-in-Ok-clause-alike
returns-in-Ok-clause-alike g c =
    sent_alike g.M.Machine (g.O.Ops.meaning c.args.ops.now) c.args.self.now.machine c.send.new.receiver c.args.at c.args.self.now.inputs c.send.new.self c.close_if.new.self (c.has_ended.result && c.in-Ok.own) (c.in-Ok.ensures.made 0 0) c.close_if.ensures.row
