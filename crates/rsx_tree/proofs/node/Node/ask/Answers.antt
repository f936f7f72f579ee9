use Rattle.rsx_tree.proofs.Alike.{asked_alike}
use Rattle.rsx_tree.proofs.Balances.{tree_ask_balanced}
use Rattle.rsx_tree.proofs.Trees.{kept_asked, can_asked, asked_effect}
use Rattle.rsx_tree.proofs.node.Node.ask.Goals as goal

pub returns-in-Ok-clause-kept : goal.returns-in-Ok-clause-kept
returns-in-Ok-clause-kept g c = λ m. kept_asked g.M.Machine m c.args.self.now.machine c.args.asked c.args.sent c.args.at c.args.self.now.inputs c.ask.new.self c.in-Ok.ensures.made

pub returns-in-Ok-clause-ok : goal.returns-in-Ok-clause-ok
returns-in-Ok-clause-ok g c = can_asked g.M.Machine c.args.self.now.machine c.args.asked c.args.sent c.args.at c.args.self.now.inputs c.ask.new.self c.in-Ok.ensures.made

pub returns-in-Ok-clause-effect : goal.returns-in-Ok-clause-effect
returns-in-Ok-clause-effect g c = asked_effect g.M.Machine c.args.self.now.machine c.args.asked c.args.sent c.args.at c.args.self.now.inputs c.ask.new.self c.in-Ok.ensures.made

pub returns-in-Ok-clause-balance : goal.returns-in-Ok-clause-balance
returns-in-Ok-clause-balance g c = λ s k. tree_ask_balanced g.M.Machine c.args.self.now.machine c.args.asked c.args.sent c.args.self.now.inputs c.args.at c.ask.new.self s c.in-Ok.ensures.made k

pub returns-in-Ok-clause-alike : goal.returns-in-Ok-clause-alike
returns-in-Ok-clause-alike g c = asked_alike g.M.Machine c.args.self.now.machine c.args.self.now.machine c.args.asked c.args.sent c.args.at c.args.self.now.inputs c.ask.new.self c.in-Ok.ensures.made
