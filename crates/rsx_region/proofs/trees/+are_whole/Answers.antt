use Rattle.rsx_region.proofs.Stages.{whole_first, whole_more}
use Rattle.rsx_region.proofs.trees.+are_whole.Goals as goal

pub returns-then-is_whole-clause-yes : goal.returns-then-is_whole-clause-yes
returns-then-is_whole-clause-yes g t c = λ is. whole_more c.args.pieces.now c.in-Some.others.now c.in-Some.first.now c.in-Some.ensures.cases.0 (c.is_whole.ensures.yes c.if-is_whole.true) (c.are_whole.ensures.yes is)

pub returns-then-is_whole-clause-no : goal.returns-then-is_whole-clause-no
returns-then-is_whole-clause-no g t c = λ is all. c.are_whole.ensures.no is (whole_first c.args.pieces.now c.in-Some.others.now c.in-Some.first.now c.in-Some.ensures.cases.0 all).1

pub returns-else-is_whole-clause-no : goal.returns-else-is_whole-clause-no
returns-else-is_whole-clause-no g t c = λ is all. c.is_whole.ensures.no c.if-is_whole.false (whole_first c.args.pieces.now c.in-Some.others.now c.in-Some.first.now c.in-Some.ensures.cases.0 all).0
