use Rattle.std.proofs.Common.{rules}
use Rattle.rsx_plain.proofs.node.PlainNode.new.Goals as goal

pub returns-clause-slot : goal.returns-clause-slot
returns-clause-slot g c = search rules

pub returns-clause-fresh : goal.returns-clause-fresh
returns-clause-fresh g c = search rules
