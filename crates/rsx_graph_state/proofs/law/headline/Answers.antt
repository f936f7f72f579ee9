use Rattle.rsx_tree.proofs.Idles.{asked_enough}
use Rattle.rsx_graph_state.proofs.Values.{whole_holds}
use Rattle.rsx_graph_state.proofs.law.headline.Goals as goal

pub returns : goal.returns
returns g c = λ m rows h s. whole_holds g.N.Machine (λ m. (g.met.N.Machine.settles m, g.met.N.Machine.ending_waits m, g.met.N.Nodes.rests m, asked_enough g.N.Machine m (g.met.N.Machine.shows m) g.met.N.Machine.asked_enough)) m rows h s
