use Rattle.std.proofs.Common.{refl}
use Rattle.rsx_tree.proofs.Alike.{popped_alike}
use Rattle.rsx_tree.proofs.Popped.{popped_tree}
use Rattle.rsx_tree.proofs.node.Node.pop.Goals as goal

pub returns-in-Ok-clause-ok : goal.returns-in-Ok-clause-ok
returns-in-Ok-clause-ok g c = popped_tree g.M.Machine (g.O.Ops.meaning c.args.ops.now) c.args.self.now.machine c.pop_front.new.self c.args.self.now.inputs (g.M.Machine.popping c.args.self.now.machine) c.in-Ok.signal refl c.in-Ok.ensures.ok c.pop_front.ensures.recorded c.in-Ok.ensures.counts c.pop_front.ensures.alike

pub returns-in-Ok-clause-alike : goal.returns-in-Ok-clause-alike
returns-in-Ok-clause-alike g c = popped_alike g.M.Machine c.args.self.now.machine c.pop_front.new.self c.args.self.now.inputs c.pop_front.ensures.alike
