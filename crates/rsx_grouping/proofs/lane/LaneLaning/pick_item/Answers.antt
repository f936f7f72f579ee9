use Rattle.std.proofs.Common.{◌∙◌, sym, rules}
use Rattle.rsx_grouping.proofs.Lanes.{item_picked}
use Rattle.rsx_grouping.proofs.lane.LaneLaning.pick_item.Goals as goal

pub returns-clause-item : goal.returns-clause-item
returns-clause-item g c =
    item_picked (g.O.Ops.meaning c.args.ops.now) c.args.key c.args.self.now c.in-Some.item.now c.in-Ok.tagged c.pop-untagged.result c.pop-untagged.new.self (sym c.is_gone.ensures ∙ c.if-is_gone.false) (search rules) c.in-Ok.ensures.answer c.pop-untagged.ensures.item c.pop-untagged.ensures.left
