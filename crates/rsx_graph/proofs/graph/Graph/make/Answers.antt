use Rattle.std.proofs.Common.{map, sym, ◌∙◌}
use Rattle.rsx_graph_state.specs.Moves.{rows_of}
use Rattle.rsx_graph_calls.specs.Regions.{regions_of}
use Rattle.rsx_graph.proofs.Kept.{graph_made, if_err, names_made, on_err, state_with}
use Rattle.rsx_graph.specs.InGraph.{sent_in, state_of}
use Rattle.rsx_kinds.specs.Any.{any_machine}
use Rattle.rsx_kinds.specs.Routes.{tree_nodes}
use Rattle.rsx_graph_moves.proofs.Rest.{made_idle}
use Rattle.rsx_graph.proofs.graph.Graph.make.Goals as goal

pub invariant_of-self-clause-sent : goal.invariant_of-self-clause-sent
invariant_of-self-clause-sent g c = c.args.self.now.sent ∙ sym c.make.ensures.feeds

pub invariant_of-self-clause-joined : goal.invariant_of-self-clause-joined
invariant_of-self-clause-joined g c = c.args.self.now.joined ∙ sym c.make.ensures.subscriptions

pub invariant_of-self-clause-rooted : goal.invariant_of-self-clause-rooted
invariant_of-self-clause-rooted g c = c.args.self.now.rooted ∙ sym c.make.ensures.subscriptions

pub invariant_of-self-clause-named : goal.invariant_of-self-clause-named
invariant_of-self-clause-named g c = names_made (g.O.Ops.meaning c.args.self.now.ops) c.args.step (state_of c.args.self.now).rows (rows_of c.make.new.hubs.items c.make.new.feeds.items c.make.new.subscriptions.items) c.make.result c.make.ensures.effect c.make.ensures.same c.make.ensures.hubs c.args.self.now.named

pub invariant_of-self-clause-beside : goal.invariant_of-self-clause-beside
invariant_of-self-clause-beside g c = c.args.self.now.beside ∙ sym c.make.ensures.feeds

pub returns-clause-stands : goal.returns-clause-stands
returns-clause-stands g c =
    let graph = c.args.self.now in
    graph_made (g.O.Ops.meaning graph.ops) c.args.step (sent_in graph c.args.step) (state_of graph) (rows_of c.make.new.hubs.items c.make.new.feeds.items c.make.new.subscriptions.items) c.make.result c.make.ensures.stands c.make.ensures.effect

pub returns-clause-same : goal.returns-clause-same
returns-clause-same g c =
    let graph = c.args.self.now in
    on_err c.make.result c.make.ensures.same
    (λ same i. state_with (same.0 i) (same.1 i) (same.2 i) (map (λ v. v.items) graph.joins.items) (map (λ v. v.items) graph.feed_joins.items) (regions_of graph.regions))

pub returns-clause-memory : goal.returns-clause-memory
returns-clause-memory g c = λ quiet. if_err c.make.result c.make.ensures.memory
    (λ r k. k quiet)

pub invariant_of-self-clause-resting : goal.invariant_of-self-clause-resting
invariant_of-self-clause-resting g c = made_idle any_machine tree_nodes (g.O.Ops.meaning c.args.self.now.ops) c.args.step c.args.self.now.idle c.wake.new.self (state_of c.args.self.now).rows (rows_of c.make.new.hubs.items c.make.new.feeds.items c.make.new.subscriptions.items) c.make.result c.wake.ensures c.make.ensures.effect c.make.ensures.same c.args.self.now.resting
