use Rattle.rsx_region.proofs.Refusals.{numbers_first}
use Rattle.rsx_region.proofs.cutting.+has_no_number.Goals as goal

pub returns-then-first-hub-clause-used : goal.returns-then-first-hub-clause-used
returns-then-first-hub-clause-used g t c = λ is all. c.has_no_number.ensures.used is (numbers_first c.args.hub c.args.inlets.now c.in-Some.others.now c.in-Some.first.now c.in-Some.ensures.cases.0 all).1

pub returns-else-first-hub-clause-used : goal.returns-else-first-hub-clause-used
returns-else-first-hub-clause-used g t c = λ is all. (numbers_first c.args.hub c.args.inlets.now c.in-Some.others.now c.in-Some.first.now c.in-Some.ensures.cases.0 all).0 c.if-first-hub.false
