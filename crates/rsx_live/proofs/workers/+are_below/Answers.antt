use Rattle.rsx_live.proofs.Graphs.{each_parts, not_below}
use Rattle.rsx_live.proofs.workers.+are_below.Goals as goal

pub returns-then-first-workers-clause-no : goal.returns-then-first-workers-clause-no
returns-then-first-workers-clause-no g c = λ is all. c.are_below.ensures.no is (each_parts _ c.args.regions.now c.in-Some.others.now c.in-Some.first.now c.in-Some.ensures.cases.0 all).1

pub returns-else-first-workers-clause-no : goal.returns-else-first-workers-clause-no
returns-else-first-workers-clause-no g c = λ is all. not_below c.in-Some.first.now c.args.workers is (each_parts _ c.args.regions.now c.in-Some.others.now c.in-Some.first.now c.in-Some.ensures.cases.0 all).0
