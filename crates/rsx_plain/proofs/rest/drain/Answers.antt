use Rattle.rsx_plain.proofs.Drained.{drained_first, drained_second, ended_closed, ended_second}
use Rattle.rsx_plain.proofs.rest.drain.Goals as goal

pub returns-in-Open-clause-moves : goal.returns-in-Open-clause-moves
returns-in-Open-clause-moves g c = drained_second _ _ _ _ _ _ _ _ _ c.pop.ensures.after c.in_ok-last.ensures.moves c.in-Open.is c.pop.ensures.room c.pop-in-Open.ensures.value c.put_behind-in-Open.ensures.moves

pub returns-in-Open-clause-ended : goal.returns-in-Open-clause-ended
returns-in-Open-clause-ended g c = ended_second _ _ _ _ _ _ c.pop.ensures.after c.in_ok-last.ensures.ended c.in-Open.is c.pop.ensures.room c.pop-in-Open.ensures.value c.put_behind-in-Open.ensures.ended

pub returns-clause-moves : goal.returns-clause-moves
returns-clause-moves g c = drained_first _ _ _ _ _ _ c.pop.ensures.after c.in_ok-last.ensures.moves c.in_default.not-Open

pub returns-clause-ended : goal.returns-clause-ended
returns-clause-ended g c = λ h. ended_closed _ c.in_default.not-Open
