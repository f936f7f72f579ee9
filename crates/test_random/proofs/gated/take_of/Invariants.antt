use Rattle.rsx_serialized.specs.Started.{IsStarted}
use Rattle.test_random.proofs.gated.take_of.Given as goal

abbrev pub invariant-loop : goal.invariant-loop
invariant-loop g l = IsStarted l.started
