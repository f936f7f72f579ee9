use Rattle.rsx_live.specs.Starts.{IsStarted}
use Rattle.rsx_app.proofs.serving.take_signals.Given as goal

abbrev pub invariant-loop : goal.invariant-loop
invariant-loop g l = IsStarted l.started
