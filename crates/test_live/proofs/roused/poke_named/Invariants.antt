use Rattle.rsx_live.specs.Starts.{IsStarted}
use Rattle.test_live.proofs.roused.poke_named.Given as goal

abbrev pub invariant-loop : goal.invariant-loop
invariant-loop l = IsStarted l.started
