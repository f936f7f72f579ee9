use Rattle.test_random.specs.Returned.{HasRest}
use Rattle.test_random.proofs.serialized.take_unpublished.Given as goal

abbrev pub invariant-loop : goal.invariant-loop
invariant-loop l = HasRest l.returned
