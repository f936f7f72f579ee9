use Rattle.std.proofs.Common.{◌≡◌, []}
use Rattle.rsx_graph.specs.InGraph.{state_of}
use Rattle.test_random.proofs.plans.new_graph.Given as goal

abbrev pub invariant-loop-kind : goal.invariant-loop-kind
invariant-loop-kind l = (state_of l.graph).joins ≡ []
