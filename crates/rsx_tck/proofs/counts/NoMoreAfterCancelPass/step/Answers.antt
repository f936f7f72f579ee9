use Rattle.rsx_tck.specs.Laws.Counting.{before_cancel-step}
use Rattle.rsx_tck.proofs.counts.NoMoreAfterCancelPass.step.Goals as goal

pub returns : goal.returns
returns c = λ s same. before_cancel-step s c.args.stamped c.args.self.now.demand.sent c.args.self.now.demand.asked
    c.after_cancel-effect.result.0.demand.sent c.after_cancel-effect.result.0.demand.asked c.args.self.now.cancelled
    c.after_cancel-effect.result.0.cancelled c.after_cancel-effect.result.1 same c.after_cancel-effect.ensures.asked
    c.after_cancel-effect.ensures.sent c.after_cancel-effect.ensures.cancelled c.after_cancel-effect.ensures.effect
