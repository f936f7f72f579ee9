use Rattle.rsx_region.proofs.Stages.{begun_from}
use Rattle.rsx_region.proofs.trees.CutTrees.new.Goals as goal

pub returns-clause-from : goal.returns-clause-from
returns-clause-from g c = λ m hubs opens. begun_from g.N.Machine g.N.CrossingNodes m hubs _ c.new.ensures.items opens
