use Rattle.std.proofs.Common.{sym}
use Rattle.std.proofs.lemmas.Bool.{false≢true}
use Rattle.rsx_rooted.proofs.rooted.Rooted.is_idle.Goals as goal

pub returns-in-Some-clause-no : goal.returns-in-Some-clause-no
returns-in-Some-clause-no g c = λ m _. (c.in-Some.step, (c.in-Some.ensures.some m).0, (c.in-Some.ensures.some m).1)

pub returns-in-None-clause-yes : goal.returns-in-None-clause-yes
returns-in-None-clause-yes g c = λ m _. c.in-None.ensures.none m

pub returns-in-Some-clause-yes : goal.returns-in-Some-clause-yes
returns-in-Some-clause-yes g c = λ m e. absurd (false≢true e)

pub returns-in-None-clause-no : goal.returns-in-None-clause-no
returns-in-None-clause-no g c = λ m e. absurd (false≢true (sym e))
