use Rattle.rsx_tck.specs.Laws.Counting.{requested-step}
use Rattle.rsx_tck.proofs.counts.NoMoreThanRequestedPass.step.Goals as goal

pub returns : goal.returns
returns c = λ s same. requested-step s c.args.stamped c.args.self.now.demand.sent c.args.self.now.demand.asked
    c.after_demand-effect.result.0.sent c.after_demand-effect.result.0.asked c.after_demand-effect.result.1 same
    c.after_demand-effect.ensures.asked c.after_demand-effect.ensures.sent c.after_demand-effect.ensures.effect
