use Rattle.std.proofs.Common.{rules}
use Rattle.rsx_tck.proofs.reports.judge.Goals as goal

pub returns-in-Some-first_position : goal.returns-in-Some-first_position
returns-in-Some-first_position c = search rules
