use Rattle.rsx_tree.proofs.Idles.{asked_enough}
use Rattle.rsx_graph_moves.proofs.Serving.{rows_served}
use Rattle.rsx_graph_moves.proofs.law.idle_means_delivered.Goals as goal

pub returns : goal.returns
returns g c = λ m rows h s q. rows_served g.N.Machine g.N.Nodes (λ m. (g.met.N.Machine.settles m, g.met.N.Machine.ending_waits m, g.met.N.Nodes.rests m, asked_enough g.N.Machine m (g.met.N.Machine.shows m) g.met.N.Machine.asked_enough)) m rows h s q
