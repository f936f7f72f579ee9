use Rattle.rsx_kinds.specs.Any.{any_machine}
use Rattle.std.proofs.Common.{◌<◌, ◌∙◌, ap, length, sym, arith, Some}
use Rattle.rsx_graph_state.proofs.Graphs.{found, state_there}
use Rattle.rsx_graph.proofs.graph.Graph.standing.Goals as goal

pub returns-clause-standing : goal.returns-clause-standing
returns-clause-standing g c = λ h s.
    let l = c.len.ensures in
    let within : c.args.sub.0 < length c.args.self.now.subscriptions.items = omega (arith, l, c.if-at-len.false) in
    let there = found c.args.self.now.subscriptions.items c.args.sub.0 c.index-subscription.result.now within (sym c.index-subscription.ensures) in
    state_there any_machine (g.O.Ops.meaning c.args.self.now.ops) s.rows.taken c.args.self.now.subscriptions.items h.pasts c.args.sub.0 c.index-subscription.result.now there s.rows.all ∙ ap Some (sym c.standing.ensures)
