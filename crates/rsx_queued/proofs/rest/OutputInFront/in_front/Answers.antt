use Rattle.std.proofs.Common.{rules}
use Rattle.rsx_queued.proofs.rest.OutputInFront.in_front.Goals as goal

pub returns-in_err-copy-in-Waiting-Next : goal.returns-in_err-copy-in-Waiting-Next
returns-in_err-copy-in-Waiting-Next g c = search rules

pub insert-requires : goal.insert-requires
insert-requires g c = search rules

pub returns-in_err-insert-in-Waiting-Next : goal.returns-in_err-insert-in-Waiting-Next
returns-in_err-insert-in-Waiting-Next g c = search rules

pub returns-in-Empty : goal.returns-in-Empty
returns-in-Empty g c = search rules

pub returns-in_ok-insert-in-Waiting-Next : goal.returns-in_ok-insert-in-Waiting-Next
returns-in_ok-insert-in-Waiting-Next g c = search rules

pub returns-in-Waiting-Complete : goal.returns-in-Waiting-Complete
returns-in-Waiting-Complete g c = search rules

pub returns-in-Waiting-Error : goal.returns-in-Waiting-Error
returns-in-Waiting-Error g c = search rules

pub returns-in-Over : goal.returns-in-Over
returns-in-Over g c = search rules
