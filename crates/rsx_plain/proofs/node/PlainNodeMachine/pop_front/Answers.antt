use Rattle.std.proofs.Common.{rules}
use Rattle.rsx_plain.proofs.node.PlainNodeMachine.pop_front.Goals as goal

pub returns-in-Some-clause-ok : goal.returns-in-Some-clause-ok
returns-in-Some-clause-ok g c = search rules
