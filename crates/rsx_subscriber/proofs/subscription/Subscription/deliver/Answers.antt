use Rattle.std.proofs.Common.{arith}
use Rattle.rsx_subscriber.proofs.Moves.{pumped_none}
use Rattle.rsx_subscriber.proofs.subscription.Subscription.deliver.Goals as goal

pub returns-then-len-eq0-clause-pumped : goal.returns-then-len-eq0-clause-pumped
returns-then-len-eq0-clause-pumped g c = λ m. (0, omega arith, pumped_none g.N.Machine g.N.Nodes m c.args.id c.args.self.now c.args.out.now.signals)
