use Rattle.std.proofs.Common.{◌∙◌, ap, sym}
use Rattle.rsx_grouping.specs.Rows.{is_told}
use Rattle.rsx_grouping.proofs.MayWait.{quiet_there}
use Rattle.rsx_grouping.proofs.table.are_told_quiet.Goals as goal

pub returns-in-At : goal.returns-in-At
returns-in-At g c = c.is_quiet_at.ensures ∙ quiet_there c.args.rows.now c.in-At.at (ap (λ w. is_told w c.args.rows.now) (sym c.in-At.is) ∙ c.requires)
