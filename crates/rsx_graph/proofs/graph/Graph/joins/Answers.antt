use Rattle.rsx_kinds.specs.Any.{any_machine}
use Rattle.std.proofs.Common.{map}
use Rattle.rsx_graph_calls.proofs.Noted.{tree_joins}
use Rattle.rsx_graph.specs.InGraph.{state_of}
use Rattle.rsx_graph.proofs.Kept.{if_err, if_ok}
use Rattle.rsx_graph.proofs.graph.Graph.joins.Goals as goal

pub returns-clause-joins : goal.returns-clause-joins
returns-clause-joins g c =
    let graph = c.args.self.now in
    if_ok c.joins.result (rw (c.deref.ensures.value, c.deref-2.ensures.value, c.deref-3.ensures.value, c.deref-4.ensures.value) at c.joins.ensures.joins)
    (λ v k h s. tree_joins any_machine (g.O.Ops.meaning graph.ops) (state_of graph).rows (map (λ js. js.items) graph.joins.items) (map (λ js. js.items) graph.feed_joins.items) h c.args.tree v.items k s.rows s.joined)

pub returns-clause-err : goal.returns-clause-err
returns-clause-err g c = if_err c.joins.result (rw (c.deref.ensures.value, c.deref-2.ensures.value, c.deref-3.ensures.value) at c.joins.ensures.err)
    (λ r k. k c.args.self.now.subscriptions.items)
