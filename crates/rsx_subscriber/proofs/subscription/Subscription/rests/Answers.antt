use Rattle.std.proofs.Common.{sym, ◌∙◌}
use Rattle.rsx_subscriber.proofs.Moves.{quiet_when}
use Rattle.rsx_subscriber.proofs.subscription.Subscription.rests.Goals as goal

pub returns : goal.returns
returns g c = λ m e. quiet_when g.N.Machine m c.args.self.now (sym c.can_take.ensures ∙ c.if-can_take.false) (c.rests.ensures m _ e)
