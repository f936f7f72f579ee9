use Rattle.std.proofs.Common.{◌∙◌, sym}
use Rattle.rsx_grouping.proofs.MayWait.{quiet_there}
use Rattle.rsx_grouping.proofs.table.may_wait_at.Goals as goal

pub returns-in-true : goal.returns-in-true
returns-in-true g c = sym (quiet_there c.args.rows.now c.args.at c.requires) ∙ sym c.is_quiet_at.ensures ∙ c.in-true.is
