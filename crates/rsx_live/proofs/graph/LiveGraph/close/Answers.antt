use Rattle.std.proofs.Common.{◌∙◌}
use Rattle.rsx_live_parts.proofs.Counts.{on_err}
use Rattle.rsx_live.proofs.Graphs.{graph_lived, other_functions}
use Rattle.rsx_live.proofs.graph.LiveGraph.close.Goals as goal

pub returns-clause-back : goal.returns-clause-back
returns-clause-back g c =
    let b = c.in_ok-subs.ensures.back in
    let live = c.args.self in
    let now = c.in_ok-subs.subs.items in
    let same = c.in_ok-subs.ensures.ops in
    record {
      flags = b.flags;
      stopped = b.stopped;
      functions = c.together.ensures.functions ∙ same;
      stands = λ graph is h st. graph_lived graph c.together.result live.rest live.subs.live.ops graph.subscriptions.items now h live.subs.kept.items c.args.taps.items b.flags is.rest (other_functions live.subs.live.ops c.in_ok-subs.ops now live.rest c.together.result same c.together.ensures) (λ published pasts all. b.stands graph.subscriptions.items is.subs published pasts all) st;
    }

pub returns-in_err-subs-clause-err : goal.returns-in_err-subs-clause-err
returns-in_err-subs-clause-err g c = on_err c.from_residual.result _ (λ graph is. c.in_err-subs.ensures.err graph.subscriptions.items is.subs)
