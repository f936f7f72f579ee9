use Rattle.rsx_tck.specs.Laws.Answering.{answer-step}
use Rattle.rsx_tck.proofs.answers.BadRequestPass.step.Goals as goal

pub returns : goal.returns
returns c = λ s same. answer-step s c.args.stamped c.args.self.now c.after_bad_request-after.result.0 c.after_bad_request-after.result.1
    same c.after_bad_request-after.ensures.state c.after_bad_request-after.ensures.effect
