use Rattle.rsx_tck.proofs.Openings.{opens, opens_wrong}
use Rattle.rsx_tck.proofs.reader.TraceReader.new.Goals as goal

pub returns-in-Ok-clause-taken : goal.returns-in-Ok-clause-taken
returns-in-Ok-clause-taken c = rw c.new.ensures.items (opens c.args.line.now c.in-Ok.stamped c.in-Ok.ensures)

pub returns-in-Err-clause-place : goal.returns-in-Err-clause-place
returns-in-Err-clause-place c = rw c.column_of.ensures (opens_wrong c.args.line.now c.in-Err.wrong.left c.in-Err.ensures)
