use Rattle.std.proofs.Common.{rules}
use Rattle.rsx_plain.proofs.map.ArrivalMapAnswer.answer_map.Goals as goal

pub returns-in-Ok-clause-answer : goal.returns-in-Ok-clause-answer
returns-in-Ok-clause-answer g c = search rules

pub returns-in-Ok-clause-err : goal.returns-in-Ok-clause-err
returns-in-Ok-clause-err g c = search rules

pub returns-in-Err-Code-clause-answer : goal.returns-in-Err-Code-clause-answer
returns-in-Err-Code-clause-answer g c = search rules

pub returns-in-Err-Code-clause-err : goal.returns-in-Err-Code-clause-err
returns-in-Err-Code-clause-err g c = search rules

pub returns-in-Err-Memory-clause-answer : goal.returns-in-Err-Memory-clause-answer
returns-in-Err-Memory-clause-answer g c = search rules

pub returns-in-Err-Memory-clause-err : goal.returns-in-Err-Memory-clause-err
returns-in-Err-Memory-clause-err g c = search rules
