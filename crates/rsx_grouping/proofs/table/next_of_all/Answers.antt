use Rattle.std.proofs.Common.{rules}
use Rattle.rsx_grouping.proofs.MayWait.{none_left}
use Rattle.rsx_grouping.proofs.table.next_of_all.Goals as goal

pub returns-clause-none : goal.returns-clause-none
returns-clause-none g c = none_left c.args.rows.now c.loop-at.at c.args.done c.args.asked c.args.sent c.loop-at.invariant (search rules)
