use Rattle.rsx_region.proofs.Halving.{go_on}
use Rattle.rsx_region.proofs.halves.can_go_on.Goals as goal

pub returns-then-may_go_on-clause-yes : goal.returns-then-may_go_on-clause-yes
returns-then-may_go_on-clause-yes g c = λ takes.
    go_on g.N.Machine g.N.CrossingNodes c.args.part.now c.args.at c.args.last.now c.args.lower.now c.edge.result c.in-Some.reader c.root_edge.result c.from.result c.is_some.result c.may_go_on.result c.takes_back.result
    c.edge.ensures c.in-Some.is c.if-at-eq0.false c.is_some.ensures c.if-is_some.false c.may_go_on.ensures.yes c.if-may_go_on.true c.root_edge.ensures c.from.ensures c.takes_back.ensures takes
