use Rattle.rsx_model.specs.Eval.{environment}
use Rattle.rsx_model.proofs.Values.{IsSoFar}
use Rattle.rsx_model.proofs.evaluate.+value.Given as goal

abbrev pub invariant-values_of-loop-input : goal.invariant-values_of-loop-input
invariant-values_of-loop-input g l = IsSoFar (environment (g.O.Ops.meaning l.ops) l.hubs l.joins l.notes) l.inputs l.at l.leaf l.input-index l.values.items l.next l.next_leaf
