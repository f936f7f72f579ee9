use Rattle.rsx_region.proofs.Halving.{end_there}
use Rattle.rsx_region.proofs.halves.can_end.Goals as goal

pub returns-then-has_ended-clause-yes : goal.returns-then-has_ended-clause-yes
returns-then-has_ended-clause-yes g c = λ takes.
    end_there g.N.Machine g.N.CrossingNodes c.args.part.now c.args.at c.args.last.now c.args.lower.now c.edge.result c.in-Some-edge.field-0 c.root_edge.result c.in-Some.ending c.in-Some-read_ending.read c.read_ending.result c.has_ended.result c.takes_back.result
    c.edge.ensures c.in-Some-edge.is c.if-at-eq0.false c.in-Some.is c.read_ending.ensures c.in-Some-read_ending.is (c.is_same.ensures.yes c.if-not-is_same.false) c.has_ended.ensures.yes c.if-has_ended.true c.root_edge.ensures c.takes_back.ensures takes
