use Rattle.rsx_kinds.specs.Any.{any_machine}
use Rattle.std.proofs.Common.{◌<◌, ℕ, length, subst, sym, arith}
use Rattle.rsx_graph_state.proofs.Graphs.{asked_there}
use Rattle.rsx_graph_state.specs.Answers.{HasAsked}
use Rattle.rsx_graph.proofs.graph.Graph.asked.Goals as goal

pub returns-clause-asked : goal.returns-clause-asked
returns-clause-asked g c = λ h s.
    let l = c.len.ensures in
    let within : c.args.sub.0 < length c.args.self.now.subscriptions.items = omega (arith, l, c.if-at-len.false) in
    let P : ℕ → Type 0 = λ n. HasAsked h.pasts c.args.sub.0 n in
    subst P (sym c.asked.ensures) (asked_there any_machine (g.O.Ops.meaning c.args.self.now.ops) s.rows.taken c.args.self.now.subscriptions.items h.pasts c.args.sub.0 c.index-subscription.result.now within (sym c.index-subscription.ensures) s.rows.all)
