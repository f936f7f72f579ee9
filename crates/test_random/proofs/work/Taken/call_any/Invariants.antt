use Rattle.test_random.specs.Ends.{AreTapsOf}
use Rattle.test_random.proofs.work.Taken.call_any.Given as goal

abbrev pub invariant-loop : goal.invariant-loop
invariant-loop l = AreTapsOf l.links.items l.self.taps.items
