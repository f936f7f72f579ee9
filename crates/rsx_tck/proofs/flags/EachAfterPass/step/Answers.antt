use Rattle.std.proofs.Common.{Bool, ◌||◌, ◌&&◌, not, ap, ◌∙◌}
use Rattle.rsx_tck.specs.Laws.Following.{each_after-step}
use Rattle.rsx_tck.proofs.flags.EachAfterPass.step.Goals as goal

pub returns : goal.returns
returns g c = λ s same. each_after-step g.P.Kind.has g.Q.Kind.has s c.args.stamped c.args.self.now.stood c.each_after-stood.result.0 c.each_after-stood.result.1 same
    (c.each_after-stood.ensures.state ∙ ap (λ (b : Bool). c.args.self.now.stood || b) c.is-first.ensures)
    (c.each_after-stood.ensures.effect ∙ ap (λ (b : Bool). not c.args.self.now.stood && b) c.is-second.ensures)
