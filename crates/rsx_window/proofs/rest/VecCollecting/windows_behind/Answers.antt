use Rattle.std.proofs.Common.{rules, ◌<◌, length, arith}
use Rattle.std.proofs.lemmas.Grind.{common_steps}
use Rattle.rsx_window.proofs.Rests.{next_window, last_window_out, copied_first}
use Rattle.rsx_window.proofs.rest.VecCollecting.windows_behind.Goals as goal

pub loop-left-preserved : goal.loop-left-preserved
loop-left-preserved g c =
    let left = c.loop-left.left.now in
    let some : 0 < length left = grind (arith, common_steps) in
    next_window (g.O.Ops.meaning c.args.ops.now) c.args.size c.args.stages.now c.saturating_sub-more.result left c.behind-left.result.now c.args.ending c.in_ok-last.last c.new-first.result c.loop-left.self.items c.chain_behind.new.self.items _
    c.saturating_sub-more.ensures some c.behind-left.ensures
    (copied_first c.saturating_sub-more.result left c.args.ending c.new-copies.result.items c.copy_behind.new.self.items c.first_part.result.now c.window_ending.result c.new-first.result c.new-copies.ensures.items (search rules) c.first_part.ensures c.window_ending.ensures c.new-first.ensures.items c.new-first.ensures.ending)
    c.in_ok-last.ensures c.in-Done.is c.loop-left.invariant

pub returns-in_default : goal.returns-in_default
returns-in_default g c =
    let left = c.loop-left.left.now in
    let some : 0 < length left = grind (arith, common_steps) in
    last_window_out (g.O.Ops.meaning c.args.ops.now) c.args.size c.args.stages.now c.saturating_sub-more.result left c.args.ending c.in_ok-last.last c.new-first.result c.loop-left.self.items c.chain_behind.new.self.items _
    c.saturating_sub-more.ensures some
    (copied_first c.saturating_sub-more.result left c.args.ending c.new-copies.result.items c.copy_behind.new.self.items c.first_part.result.now c.window_ending.result c.new-first.result c.new-copies.ensures.items (search rules) c.first_part.ensures c.window_ending.ensures c.new-first.ensures.items c.new-first.ensures.ending)
    c.in_ok-last.ensures c.in_default.not-Done c.loop-left.invariant
