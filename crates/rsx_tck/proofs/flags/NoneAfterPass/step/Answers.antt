use Rattle.std.proofs.Common.{Bool, ◌||◌, ◌&&◌, ap, ◌∙◌}
use Rattle.rsx_tck.specs.Laws.Following.{none_after-step}
use Rattle.rsx_tck.proofs.flags.NoneAfterPass.step.Goals as goal

pub returns : goal.returns
returns g c = λ s same. none_after-step g.P.Kind.has g.Q.Kind.has s c.args.stamped c.args.self.now.stood c.none_after-stood.result.0 c.none_after-stood.result.1 same
    (c.none_after-stood.ensures.state ∙ ap (λ (b : Bool). c.args.self.now.stood || b) c.is-first.ensures)
    (c.none_after-stood.ensures.effect ∙ ap (λ (b : Bool). c.args.self.now.stood && b) c.is-second.ensures)
