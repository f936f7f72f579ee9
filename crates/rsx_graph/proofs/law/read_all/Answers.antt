use Rattle.rsx_graph.proofs.Reading.{rows_read}
use Rattle.rsx_graph.proofs.law.read_all.Goals as goal

pub returns : goal.returns
returns g c = λ m rows h s wait taken quiet carried nodes. rows_read m rows h s wait taken quiet carried nodes
