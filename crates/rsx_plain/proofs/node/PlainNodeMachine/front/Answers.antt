use Rattle.std.proofs.Common.{rules}
use Rattle.rsx_plain.proofs.node.PlainNodeMachine.front.Goals as goal

pub returns-in-Some-Complete-clause-shown : goal.returns-in-Some-Complete-clause-shown
returns-in-Some-Complete-clause-shown g c = search rules

pub returns-in-Some-Complete-clause-first : goal.returns-in-Some-Complete-clause-first
returns-in-Some-Complete-clause-first g c = search rules
