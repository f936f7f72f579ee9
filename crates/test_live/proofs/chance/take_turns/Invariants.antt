use Rattle.rsx_live.specs.Starts.{AreTapsOf}
use Rattle.test_live.proofs.chance.take_turns.Given as goal

abbrev pub invariant-loop-turn : goal.invariant-loop-turn
invariant-loop-turn g l = AreTapsOf l.graph l.taps.items
