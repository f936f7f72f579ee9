use Rattle.std.proofs.Common.{rules}
use Rattle.rsx_plain.proofs.node.PlainNodeMachine.can_take.Goals as goal

pub returns-then-input-eq0 : goal.returns-then-input-eq0
returns-then-input-eq0 g c = search rules
