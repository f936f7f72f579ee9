use Rattle.std.proofs.Common.{rules}
use Rattle.rsx_plain.proofs.Prepares.{takes_none, takes_last}
use Rattle.rsx_plain.proofs.take.prepare.Goals as goal

pub returns-in-0 : goal.returns-in-0
returns-in-0 g c = rw c.kept.ensures (λ m. takes_none m c.args.count c.args.left c.args.item c.args.ending c.in-0.is)

pub returns-in-1 : goal.returns-in-1
returns-in-1 g c = rw c.forwarded.ensures (λ m. takes_last m c.args.count c.args.left c.args.item c.args.ending c.in-1.is)

pub returns-in_default : goal.returns-in_default
returns-in_default g c = search rules
