use Rattle.rsx_live.specs.Starts.{AreTapsOf}
use Rattle.test_live.proofs.chance.take_some.Given as goal

abbrev pub invariant-loop : goal.invariant-loop
invariant-loop g l = AreTapsOf l.graph l.taps.items
