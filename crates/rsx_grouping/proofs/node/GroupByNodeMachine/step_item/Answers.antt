use Rattle.std.proofs.Common.{◌≡◌, ◌<◌, true, rules, arith}
use Rattle.rsx_queued.specs.Output.{is_empty}
use Rattle.rsx_grouping.proofs.Chosen.{may_step}
use Rattle.rsx_grouping.proofs.node.GroupByNodeMachine.step_item.Goals as goal

pub returns-clause-out : goal.returns-clause-out
returns-clause-out g c =
    let n = c.args.self.now in
    let empty : is_empty n.output ≡ true = search rules in
    let lt : c.args.sent < c.args.asked = omega arith in
    may_step (g.O.Ops.meaning c.args.ops.now) n c.pick_item.new.self c.pick_item.new.choices c.args.asked c.args.sent c.pick_item.result empty lt c.pick_item.ensures.some c.pick_item.ensures.none
