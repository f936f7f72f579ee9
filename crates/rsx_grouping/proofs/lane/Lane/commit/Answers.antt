use Rattle.std.proofs.Common.{◌∙◌}
use Rattle.rsx_grouping.proofs.Lanes.{leaves}
use Rattle.rsx_grouping.proofs.lane.Lane.commit.Goals as goal

pub returns-then-is_none : goal.returns-then-is_none
returns-then-is_none g c = rw c.in-None.is (c.leave.ensures ∙ leaves c.args.self.now.state c.args.self.now.waiting c.pop.new.self c.pop.result c.pop.ensures.item c.pop.ensures.left c.if-is_none.ensures)
