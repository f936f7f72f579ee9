use Rattle.std.proofs.Common.{sym, ◌∙◌, arith}
use Rattle.rsx_graph_state.specs.Moves.{rows_of}
use Rattle.rsx_graph.proofs.Kept.{graph_pumped, idle_delivered, idle_read, idle_served, names_pumped}
use Rattle.rsx_graph.specs.InGraph.{state_of}
use Rattle.rsx_graph.proofs.graph.Graph.pump.Goals as goal

pub invariant_of-self-clause-sent : goal.invariant_of-self-clause-sent
invariant_of-self-clause-sent g c = c.args.self.now.sent ∙ sym c.pump.ensures.feeds

pub invariant_of-self-clause-joined : goal.invariant_of-self-clause-joined
invariant_of-self-clause-joined g c = c.args.self.now.joined ∙ sym c.pump.ensures.subscriptions

pub invariant_of-self-clause-rooted : goal.invariant_of-self-clause-rooted
invariant_of-self-clause-rooted g c = c.args.self.now.rooted ∙ sym c.pump.ensures.subscriptions

pub invariant_of-self-clause-named : goal.invariant_of-self-clause-named
invariant_of-self-clause-named g c = names_pumped (g.O.Ops.meaning c.args.self.now.ops) c.args.budget (state_of c.args.self.now).rows (rows_of c.pump.new.hubs.items c.pump.new.feeds.items c.pump.new.subscriptions.items) c.args.out.now c.pump.new.out c.pump.result c.pump.ensures.pumped c.pump.ensures.hubs c.args.self.now.named

pub invariant_of-self-clause-beside : goal.invariant_of-self-clause-beside
invariant_of-self-clause-beside g c = c.args.self.now.beside ∙ sym c.pump.ensures.feeds

pub returns-clause-pumped : goal.returns-clause-pumped
returns-clause-pumped g c = graph_pumped (g.O.Ops.meaning c.args.self.now.ops) c.args.budget (state_of c.args.self.now) c.args.out.now c.pump.result (rows_of c.pump.new.hubs.items c.pump.new.feeds.items c.pump.new.subscriptions.items) c.pump.new.out c.pump.ensures.pumped

pub returns-clause-delivered : goal.returns-clause-delivered
returns-clause-delivered g c = idle_delivered (g.O.Ops.meaning c.args.self.now.ops) c.args.budget (state_of c.args.self.now) (rows_of c.pump.new.hubs.items c.pump.new.feeds.items c.pump.new.subscriptions.items) c.args.out.now c.pump.new.out c.pump.result (omega (arith, c.pump.ensures.hubs, c.args.self.now.few_hubs)) c.pump.ensures.pumped

pub returns-clause-served : goal.returns-clause-served
returns-clause-served g c = idle_served (g.O.Ops.meaning c.args.self.now.ops) c.args.budget (state_of c.args.self.now) (rows_of c.pump.new.hubs.items c.pump.new.feeds.items c.pump.new.subscriptions.items) c.args.out.now c.pump.new.out c.pump.result c.pump.ensures.pumped

pub returns-clause-read : goal.returns-clause-read
returns-clause-read g c = idle_read (g.O.Ops.meaning c.args.self.now.ops) c.args.budget (state_of c.args.self.now) (rows_of c.pump.new.hubs.items c.pump.new.feeds.items c.pump.new.subscriptions.items) c.args.out.now c.pump.new.out c.pump.result (omega (arith, c.pump.ensures.hubs, c.args.self.now.few_hubs)) c.pump.ensures.pumped

pub returns-clause-memory : goal.returns-clause-memory
returns-clause-memory g c = c.pump.ensures.memory
