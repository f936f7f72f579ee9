use Rattle.std.proofs.Common.{rules}
use Rattle.rsx_plain.proofs.node.PlainNodeMachine.put_back.Goals as goal

pub returns-then-len-lt2 : goal.returns-then-len-lt2
returns-then-len-lt2 g c = search rules
