use Rattle.std.proofs.Common.{ap, ◌++◌}
use Rattle.rsx_verify.specs.Prelude.{beginning, reader, region_of, state_of}
use Rattle.rsx_verify.proofs.Kept.{processed_kept}
use Rattle.rsx_verify.proofs.Leading.{followed_from}
use Rattle.rsx_verify.proofs.recording.process.Goals as goal

pub returns-clause-recorded : goal.returns-clause-recorded
returns-clause-recorded g c =
    let begun = c.in_ok-begun.begun in
    let meaning = g.O.Ops.meaning in
    let followed = followed_from (meaning c.args.ops) (meaning begun.graph.ops) (region_of {T = g.row.O-Item.Denot} reader) begun.region (state_of begun.graph) c.args.acts.now (beginning 0 ++ beginning 1) begun.events.items c.in_ok-events.events.items
    (ap meaning c.in_ok-begun.ensures.ops) c.in_ok-begun.ensures.region c.in_ok-begun.ensures.recorded c.in_ok-events.ensures.followed in
    (state_of begun.graph, (c.in_ok-begun.ensures.begun, followed))

pub returns-clause-kept : goal.returns-clause-kept
returns-clause-kept g c = processed_kept (g.O.Ops.meaning c.args.ops) c.args.expr.now c.args.acts.now c.in_ok-events.events.items (returns-clause-recorded g c)
