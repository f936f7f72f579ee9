use Rattle.std.proofs.Common.{rules}
use Rattle.rsx_plain.proofs.chain.ChainStateChaining.+take.Goals as goal

pub returns-in-End-clause-ok : goal.returns-in-End-clause-ok
returns-in-End-clause-ok g t c = search rules

pub returns-in-End-clause-ended : goal.returns-in-End-clause-ended
returns-in-End-clause-ended g t c = search rules

pub returns-in-End-clause-over : goal.returns-in-End-clause-over
returns-in-End-clause-over g t c = search rules

pub returns-in-End-clause-err : goal.returns-in-End-clause-err
returns-in-End-clause-err g t c = search rules

pub returns-in-End-clause-memory : goal.returns-in-End-clause-memory
returns-in-End-clause-memory g t c = search rules

pub returns-in-End-clause-same : goal.returns-in-End-clause-same
returns-in-End-clause-same g t c = search rules

pub returns-in-Ok-take-clause-ok : goal.returns-in-Ok-take-clause-ok
returns-in-Ok-take-clause-ok g t c = search rules

pub returns-in-Ok-take-clause-ended : goal.returns-in-Ok-take-clause-ended
returns-in-Ok-take-clause-ended g t c = search rules

pub returns-in-Ok-take-clause-over : goal.returns-in-Ok-take-clause-over
returns-in-Ok-take-clause-over g t c = search rules

pub returns-in-Ok-take-clause-err : goal.returns-in-Ok-take-clause-err
returns-in-Ok-take-clause-err g t c = search rules

pub returns-in-Ok-take-clause-memory : goal.returns-in-Ok-take-clause-memory
returns-in-Ok-take-clause-memory g t c = search rules

pub returns-in-Ok-take-clause-same : goal.returns-in-Ok-take-clause-same
returns-in-Ok-take-clause-same g t c = search rules

pub returns-in-Err-take-clause-ok : goal.returns-in-Err-take-clause-ok
returns-in-Err-take-clause-ok g t c = search rules

pub returns-in-Err-take-clause-ended : goal.returns-in-Err-take-clause-ended
returns-in-Err-take-clause-ended g t c = search rules

pub returns-in-Err-take-clause-over : goal.returns-in-Err-take-clause-over
returns-in-Err-take-clause-over g t c = search rules

pub returns-in-Err-take-clause-err : goal.returns-in-Err-take-clause-err
returns-in-Err-take-clause-err g t c = search rules

pub returns-in-Err-take-clause-memory : goal.returns-in-Err-take-clause-memory
returns-in-Err-take-clause-memory g t c = search rules

pub returns-in-Err-take-clause-same : goal.returns-in-Err-take-clause-same
returns-in-Err-take-clause-same g t c = search rules

pub returns-in-Err-clause-ok : goal.returns-in-Err-clause-ok
returns-in-Err-clause-ok g t c = search rules

pub returns-in-Err-clause-ended : goal.returns-in-Err-clause-ended
returns-in-Err-clause-ended g t c = search rules

pub returns-in-Err-clause-over : goal.returns-in-Err-clause-over
returns-in-Err-clause-over g t c = search rules

pub returns-in-Err-clause-err : goal.returns-in-Err-clause-err
returns-in-Err-clause-err g t c = search rules

pub returns-in-Err-clause-memory : goal.returns-in-Err-clause-memory
returns-in-Err-clause-memory g t c = search rules

pub returns-in-Err-clause-same : goal.returns-in-Err-clause-same
returns-in-Err-clause-same g t c = search rules
