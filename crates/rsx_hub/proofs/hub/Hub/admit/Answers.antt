use Rattle.std.proofs.Common.{rules}
use Rattle.rsx_hub.proofs.hub.Hub.admit.Goals as goal

pub returns-in_err-member-clause-err : goal.returns-in_err-member-clause-err
returns-in_err-member-clause-err g c = search rules

pub count_in-requires : goal.count_in-requires
count_in-requires g c = search rules

pub returns-clause-place : goal.returns-clause-place
returns-clause-place g c = search rules
