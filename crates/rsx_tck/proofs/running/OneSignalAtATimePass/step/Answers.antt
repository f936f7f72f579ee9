use Rattle.rsx_tck.specs.Laws.Running.{signal-step}
use Rattle.rsx_tck.proofs.running.OneSignalAtATimePass.step.Goals as goal

pub returns : goal.returns
returns c = λ s same. signal-step s c.args.stamped c.args.self.now.running c.after_signal-running.result.0 c.after_signal-running.result.1
    same c.after_signal-running.ensures.state c.after_signal-running.ensures.effect
