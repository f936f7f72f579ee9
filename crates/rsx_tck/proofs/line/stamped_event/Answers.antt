use Rattle.std.proofs.Common.{rules}
use Rattle.rsx_tck.specs.Reading.{stamped_at}
use Rattle.rsx_tck.proofs.line.stamped_event.Goals as goal

pub returns-in_err-worker : goal.returns-in_err-worker
unfolding stamped_at
returns-in_err-worker c = search rules

pub returns-in_err-event : goal.returns-in_err-event
unfolding stamped_at
returns-in_err-event c = search rules

pub returns-in_ok-event : goal.returns-in_ok-event
unfolding stamped_at
returns-in_ok-event c = search rules
