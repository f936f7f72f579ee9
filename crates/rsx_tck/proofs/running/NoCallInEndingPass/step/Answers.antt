use Rattle.std.proofs.Common.{◌∙◌, ap, ◌&&◌, ◌||◌, not}
use Rattle.rsx_tck.specs.Events.{is_ending, is_exit, is_request_or_cancel}
use Rattle.rsx_tck.specs.Laws.Working.{ending-step}
use Rattle.rsx_tck.proofs.running.NoCallInEndingPass.step.Goals as goal

pub returns : goal.returns
returns c = λ s same. ending-step s c.args.stamped c.args.self.now.ending.flags c.set.new.self.flags c.within_ending-ending.result.0
    c.within_ending-ending.result.1 same c.has.ensures.named
    (c.within_ending-ending.ensures.state ∙
    ap (λ b. is_ending c.args.stamped.event || (b && not (is_exit c.args.stamped.event))) c.has.ensures.flag)
    c.set.ensures
    (c.within_ending-ending.ensures.effect ∙ ap (λ b. b && is_request_or_cancel c.args.stamped.event) c.has.ensures.flag)
