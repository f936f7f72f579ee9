use Rattle.std.proofs.Common.{map, sym, ◌∙◌}
use Rattle.rsx_graph_state.specs.Moves.{rows_of}
use Rattle.rsx_graph_calls.specs.Regions.{regions_of}
use Rattle.rsx_graph.proofs.Kept.{on_err, state_with}
use Rattle.rsx_graph.proofs.Times.{graph_times, names_times, none_times}
use Rattle.rsx_graph.specs.InGraph.{state_of}
use Rattle.rsx_kinds.specs.Any.{any_machine}
use Rattle.rsx_kinds.specs.Routes.{tree_nodes}
use Rattle.rsx_graph_moves.proofs.Rest.{times_idle}
use Rattle.rsx_graph.proofs.graph.Graph.make_many.Goals as goal

pub invariant_of-self-clause-sent : goal.invariant_of-self-clause-sent
invariant_of-self-clause-sent g c = c.args.self.now.sent ∙ sym c.make_many.ensures.feeds

pub invariant_of-self-clause-joined : goal.invariant_of-self-clause-joined
invariant_of-self-clause-joined g c = c.args.self.now.joined ∙ sym c.make_many.ensures.subscriptions

pub invariant_of-self-clause-rooted : goal.invariant_of-self-clause-rooted
invariant_of-self-clause-rooted g c = c.args.self.now.rooted ∙ sym c.make_many.ensures.subscriptions

pub invariant_of-self-clause-named : goal.invariant_of-self-clause-named
invariant_of-self-clause-named g c = names_times (g.O.Ops.meaning c.args.self.now.ops) c.args.step (state_of c.args.self.now).rows (rows_of c.make_many.new.hubs.items c.make_many.new.feeds.items c.make_many.new.subscriptions.items) c.args.out.now c.make_many.new.out c.make_many.result c.make_many.ensures.made c.make_many.ensures.same c.make_many.ensures.hubs c.args.self.now.named

pub invariant_of-self-clause-beside : goal.invariant_of-self-clause-beside
invariant_of-self-clause-beside g c = c.args.self.now.beside ∙ sym c.make_many.ensures.feeds

pub returns-clause-made : goal.returns-clause-made
returns-clause-made g c = graph_times (g.O.Ops.meaning c.args.self.now.ops) c.args.step (state_of c.args.self.now) c.args.out.now c.make_many.result (rows_of c.make_many.new.hubs.items c.make_many.new.feeds.items c.make_many.new.subscriptions.items) c.make_many.new.out c.make_many.ensures.made

pub returns-clause-count : goal.returns-clause-count
returns-clause-count g c = c.make_many.ensures.count

pub returns-clause-ended : goal.returns-clause-ended
returns-clause-ended g c = c.make_many.ensures.ended

pub returns-clause-err : goal.returns-clause-err
returns-clause-err g c = c.make_many.ensures.err

pub returns-clause-none : goal.returns-clause-none
returns-clause-none g c = none_times (g.O.Ops.meaning c.args.self.now.ops) c.args.step c.args.n (state_of c.args.self.now) c.make_many.new.hubs.items c.make_many.new.feeds.items c.make_many.new.subscriptions.items c.args.out.now c.make_many.new.out c.make_many.result c.make_many.ensures.made c.make_many.ensures.count c.make_many.ensures.same c.make_many.ensures.none

pub returns-clause-same : goal.returns-clause-same
returns-clause-same g c =
    let graph = c.args.self.now in
    on_err c.make_many.result c.make_many.ensures.same
    (λ same. (λ i. state_with (same.0 i) (same.1 i) (same.2 i) (map (λ v. v.items) graph.joins.items) (map (λ v. v.items) graph.feed_joins.items) (regions_of graph.regions), same.3))

pub invariant_of-self-clause-resting : goal.invariant_of-self-clause-resting
invariant_of-self-clause-resting g c = times_idle any_machine tree_nodes (g.O.Ops.meaning c.args.self.now.ops) c.args.step c.args.self.now.idle c.wake.new.self (state_of c.args.self.now).rows (rows_of c.make_many.new.hubs.items c.make_many.new.feeds.items c.make_many.new.subscriptions.items) c.args.out.now c.make_many.new.out c.make_many.result c.wake.ensures c.make_many.ensures.made c.make_many.ensures.same c.args.self.now.resting
