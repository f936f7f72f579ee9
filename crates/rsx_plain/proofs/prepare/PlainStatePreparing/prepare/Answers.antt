use Rattle.std.proofs.Common.{rules}
use Rattle.rsx_plain.proofs.prepare.PlainStatePreparing.prepare.Goals as goal

pub returns-in-Ok-clause-ok : goal.returns-in-Ok-clause-ok
returns-in-Ok-clause-ok g c = search rules

pub returns-in-Ok-clause-err : goal.returns-in-Ok-clause-err
returns-in-Ok-clause-err g c = search rules

pub returns-in-Ok-clause-same : goal.returns-in-Ok-clause-same
returns-in-Ok-clause-same g c = search rules

pub returns-in-Ok-clause-memory : goal.returns-in-Ok-clause-memory
returns-in-Ok-clause-memory g c = search rules

pub returns-in-Err-clause-ok : goal.returns-in-Err-clause-ok
returns-in-Err-clause-ok g c = search rules

pub returns-in-Err-clause-err : goal.returns-in-Err-clause-err
returns-in-Err-clause-err g c = search rules

pub returns-in-Err-clause-same : goal.returns-in-Err-clause-same
returns-in-Err-clause-same g c = search rules

pub returns-in-Err-clause-memory : goal.returns-in-Err-clause-memory
returns-in-Err-clause-memory g c = search rules

pub returns-in-Ok-to_ending-clause-ok : goal.returns-in-Ok-to_ending-clause-ok
returns-in-Ok-to_ending-clause-ok g c = search rules

pub returns-in-Ok-to_ending-clause-err : goal.returns-in-Ok-to_ending-clause-err
returns-in-Ok-to_ending-clause-err g c = search rules

pub returns-in-Ok-to_ending-clause-same : goal.returns-in-Ok-to_ending-clause-same
returns-in-Ok-to_ending-clause-same g c = search rules

pub returns-in-Ok-to_ending-clause-memory : goal.returns-in-Ok-to_ending-clause-memory
returns-in-Ok-to_ending-clause-memory g c = search rules

pub returns-in-Err-to_ending-clause-ok : goal.returns-in-Err-to_ending-clause-ok
returns-in-Err-to_ending-clause-ok g c = search rules

pub returns-in-Err-to_ending-clause-err : goal.returns-in-Err-to_ending-clause-err
returns-in-Err-to_ending-clause-err g c = search rules

pub returns-in-Err-to_ending-clause-same : goal.returns-in-Err-to_ending-clause-same
returns-in-Err-to_ending-clause-same g c = search rules

pub returns-in-Err-to_ending-clause-memory : goal.returns-in-Err-to_ending-clause-memory
returns-in-Err-to_ending-clause-memory g c = search rules
