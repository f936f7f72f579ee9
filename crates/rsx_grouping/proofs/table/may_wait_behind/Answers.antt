use Rattle.std.proofs.Common.{sym, ◌∙◌}
use Rattle.rsx_grouping.proofs.MayWait.{more_quiet}
use Rattle.rsx_grouping.proofs.table.may_wait_behind.Goals as goal

pub returns-in-true : goal.returns-in-true
returns-in-true g c row = more_quiet c.args.rows.now row (sym c.are_told_quiet.ensures ∙ c.in-true.is)
