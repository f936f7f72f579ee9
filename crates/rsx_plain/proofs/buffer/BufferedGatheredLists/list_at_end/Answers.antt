use Rattle.std.proofs.Common.{rules}
use Rattle.rsx_plain.proofs.buffer.BufferedGatheredLists.list_at_end.Goals as goal

pub returns-in_err-list-in-Done-false : goal.returns-in_err-list-in-Done-false
returns-in_err-list-in-Done-false g c = search rules

pub returns-in-Done-true : goal.returns-in-Done-true
returns-in-Done-true g c = search rules

pub returns-in_ok-list-in-Done-false : goal.returns-in_ok-list-in-Done-false
returns-in_ok-list-in-Done-false g c = search rules

pub returns-in-Open-default : goal.returns-in-Open-default
returns-in-Open-default g c = search rules

pub returns-in-Failed-default : goal.returns-in-Failed-default
returns-in-Failed-default g c = search rules
