use Rattle.std.proofs.Common.{◌∙◌, ap, ◌&&◌, ◌||◌, not}
use Rattle.rsx_tck.specs.Events.{is_on_subscribe, is_cancel_new, is_exit}
use Rattle.rsx_tck.specs.Laws.Refusing.{unrefused-step}
use Rattle.rsx_tck.proofs.running.SecondRefusedPass.step.Goals as goal

pub returns : goal.returns
returns c = λ s same. unrefused-step s c.args.stamped c.args.self.now.opened c.within_on_subscribe-effect.result.0.opened
    c.args.self.now.settled c.within_on_subscribe-effect.result.0.settled c.args.self.now.unrefused.flags c.set.new.self.flags
    c.within_on_subscribe-effect.result.0.unrefused c.within_on_subscribe-effect.result.1 same c.has.ensures.named
    c.within_on_subscribe-effect.ensures.opened c.within_on_subscribe-effect.ensures.settled
    (c.within_on_subscribe-effect.ensures.unrefused ∙
    ap (λ b. (is_on_subscribe c.args.stamped.event && (c.args.self.now.opened && not c.args.self.now.settled))
    || (b && not (is_exit c.args.stamped.event || is_cancel_new c.args.stamped.event))) c.has.ensures.flag)
    c.set.ensures
    (c.within_on_subscribe-effect.ensures.effect ∙ ap (λ b. b && is_exit c.args.stamped.event) c.has.ensures.flag)
