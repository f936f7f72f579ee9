use Rattle.std.proofs.Common.{rules}
use Rattle.rsx_plain.proofs.distinct.ArrivalDistinctAnswer.answer_distinct.Goals as goal

pub returns-in-Ok-true-clause-answer : goal.returns-in-Ok-true-clause-answer
returns-in-Ok-true-clause-answer g c = search rules

pub returns-in-Ok-true-clause-err : goal.returns-in-Ok-true-clause-err
returns-in-Ok-true-clause-err g c = search rules

pub returns-in-Ok-false-clause-err : goal.returns-in-Ok-false-clause-err
returns-in-Ok-false-clause-err g c = search rules

pub returns-in-Err-clause-answer : goal.returns-in-Err-clause-answer
returns-in-Err-clause-answer g c = search rules

pub returns-in-Err-clause-err : goal.returns-in-Err-clause-err
returns-in-Err-clause-err g c = search rules

pub returns-in-Err-Code-clause-answer : goal.returns-in-Err-Code-clause-answer
returns-in-Err-Code-clause-answer g c = search rules

pub returns-in-Err-Code-clause-err : goal.returns-in-Err-Code-clause-err
returns-in-Err-Code-clause-err g c = search rules

pub returns-in-Err-Memory-clause-answer : goal.returns-in-Err-Memory-clause-answer
returns-in-Err-Memory-clause-answer g c = search rules

pub returns-in-Err-Memory-clause-err : goal.returns-in-Err-Memory-clause-err
returns-in-Err-Memory-clause-err g c = search rules
