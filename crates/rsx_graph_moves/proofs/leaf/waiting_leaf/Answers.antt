use Rattle.rsx_tree.proofs.Idles.{asked_enough}
use Rattle.rsx_graph_moves.proofs.Idle.{none_lacks, none_left}
use Rattle.rsx_graph_moves.proofs.leaf.waiting_leaf.Goals as goal

pub returns-clause-none : goal.returns-clause-none
returns-clause-none g c = none_left g.M.Machine c.args.root.now c.args.tree.now c.leaf_in.result c.hub.result c.hub.ensures c.in_default.is c.leaf_in.ensures.none

pub returns-clause-idle : goal.returns-clause-idle
returns-clause-idle g c = λ m.
    none_lacks g.M.Machine m (g.met.M.Machine.shows m) (g.met.M.Machine.ending_waits m) (asked_enough g.M.Machine m (g.met.M.Machine.shows m) g.met.M.Machine.asked_enough) (g.met.M.Machine.hungry) c.args.root.now c.args.tree.now c.leaf_in.result (returns-clause-none g c)
