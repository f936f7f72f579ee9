use Rattle.rsx_graph.proofs.Delivered.{rows_delivered, waits_for_one}
use Rattle.rsx_graph.proofs.law.all_delivered.Goals as goal

pub returns : goal.returns
returns g c = λ m graph h s quiet few one carried. rows_delivered m graph.rows h s.rows s.limits few quiet (waits_for_one m graph.rows one) carried
