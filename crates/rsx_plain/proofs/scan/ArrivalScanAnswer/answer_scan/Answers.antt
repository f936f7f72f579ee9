use Rattle.std.proofs.Common.{rules}
use Rattle.rsx_plain.proofs.scan.ArrivalScanAnswer.answer_scan.Goals as goal

pub returns-in-Ok-copy-clause-answer : goal.returns-in-Ok-copy-clause-answer
returns-in-Ok-copy-clause-answer g c = search rules

pub returns-in-Ok-copy-clause-err : goal.returns-in-Ok-copy-clause-err
returns-in-Ok-copy-clause-err g c = search rules

pub returns-in-Err-clause-answer : goal.returns-in-Err-clause-answer
returns-in-Err-clause-answer g c = search rules

pub returns-in-Err-clause-err : goal.returns-in-Err-clause-err
returns-in-Err-clause-err g c = search rules

pub returns-in-Err-Code-clause-answer : goal.returns-in-Err-Code-clause-answer
returns-in-Err-Code-clause-answer g c = search rules

pub returns-in-Err-Code-clause-err : goal.returns-in-Err-Code-clause-err
returns-in-Err-Code-clause-err g c = search rules

pub returns-in-Err-Memory-clause-answer : goal.returns-in-Err-Memory-clause-answer
returns-in-Err-Memory-clause-answer g c = search rules

pub returns-in-Err-Memory-clause-err : goal.returns-in-Err-Memory-clause-err
returns-in-Err-Memory-clause-err g c = search rules
