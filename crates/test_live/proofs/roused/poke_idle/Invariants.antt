use Rattle.rsx_live.specs.Starts.{IsStarted}
use Rattle.test_live.proofs.roused.poke_idle.Given as goal

abbrev pub invariant-loop-region : goal.invariant-loop-region
invariant-loop-region l = IsStarted l.started
