use Rattle.rsx_live.specs.Starts.{IsStarted}
use Rattle.rsx_app.proofs.serving.poke_each.Given as goal

abbrev pub invariant-loop-region : goal.invariant-loop-region
invariant-loop-region l = IsStarted l.started
