use Rattle.rsx_graph_moves.proofs.Quiet.{on_some}
use Rattle.rsx_graph_moves.proofs.explaining.first_move.Goals as goal

pub returns-then-is_idle-clause-none : goal.returns-then-is_idle-clause-none
returns-then-is_idle-clause-none g c = λ m. c.is_idle.ensures.yes m c.if-is_idle.true

pub returns-clause-awake : goal.returns-clause-awake
returns-clause-awake g c = λ m. on_some c.first_enabled.result (c.is_idle.ensures.no m c.if-is_idle.false)
