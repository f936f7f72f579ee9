use Rattle.std.proofs.Common.{◌<◌, length, arith}
use Rattle.rsx_merging.proofs.Copied.{one_more, stops_here}
use Rattle.rsx_merging.proofs.behind.ConcatNodeLeftBehind.left_behind.Goals as goal

pub loop-at-preserved : goal.loop-at-preserved
loop-at-preserved g c =
    let es = c.args.self.now.endings.items in
    let lt : c.loop-at.at < length es = omega arith in
    one_more es c.args.incoming.now c.loop-at.at c.loop-at.all.items c.copy_at.new.all.items c.in_ok-ending.ending _ lt c.in_ok-ending.ensures c.in-Done.is c.loop-at.invariant

pub returns-in_default : goal.returns-in_default
returns-in_default g c =
    let es = c.args.self.now.endings.items in
    let lt : c.loop-at.at < length es = omega arith in
    stops_here es c.args.incoming.now c.loop-at.at c.loop-at.all.items c.copy_at.new.all.items c.in_ok-ending.ending c.new.result _ lt c.in_ok-ending.ensures c.in_default.not-Done c.loop-at.invariant c.new.ensures.items c.new.ensures.ending
