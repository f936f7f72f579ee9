use Rattle.rsx_region.proofs.Cuts.{reads_more}
use Rattle.rsx_region.proofs.Refusals.{reads_first}
use Rattle.rsx_region.proofs.cutting.+reads_none.Goals as goal

pub returns-then-is_read_by_none-clause-free : goal.returns-then-is_read_by_none-clause-free
returns-then-is_read_by_none-clause-free g t c = λ rest. reads_more g.N.Machine c.args.part.now c.in-Some.first.now c.in-Some.others.now c.args.inlets.now c.in-Some.ensures.cases.0 (c.is_read_by_none.ensures.free c.if-is_read_by_none.true) (c.reads_none.ensures.free rest)

pub returns-then-is_read_by_none-clause-used : goal.returns-then-is_read_by_none-clause-used
returns-then-is_read_by_none-clause-used g t c = λ is all. c.reads_none.ensures.used is (reads_first g.N.Machine c.args.part.now c.args.inlets.now c.in-Some.others.now c.in-Some.first.now c.in-Some.ensures.cases.0 all).1

pub returns-else-is_read_by_none-clause-used : goal.returns-else-is_read_by_none-clause-used
returns-else-is_read_by_none-clause-used g t c = λ is all. c.is_read_by_none.ensures.used c.if-is_read_by_none.false (reads_first g.N.Machine c.args.part.now c.args.inlets.now c.in-Some.others.now c.in-Some.first.now c.in-Some.ensures.cases.0 all).0
