use Rattle.std.proofs.Common.{sym, ◌∙◌}
use Rattle.rsx_subscriber.proofs.Moves.{quiet_when, awake_part}
use Rattle.rsx_subscriber.proofs.subscription.Subscription.is_idle.Goals as goal

pub returns-clause-yes : goal.returns-clause-yes
returns-clause-yes g c = λ m e. quiet_when g.N.Machine m c.args.self.now (sym c.can_take.ensures ∙ c.if-can_take.false) (c.is_idle.ensures.yes m e)

pub returns-clause-no : goal.returns-clause-no
returns-clause-no g c = λ m e. awake_part g.N.Machine m c.args.self.now (c.is_idle.ensures.no m e)
