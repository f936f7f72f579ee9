use Rattle.std.proofs.Common.{◌∙◌}
use Rattle.rsx_graph_state.specs.Moves.{rows_of}
use Rattle.rsx_graph_moves.proofs.Times.{times_none, times_on}
use Rattle.rsx_graph_moves.proofs.many.make_many.Goals as goal

pub returns-then-n-eq0-clause-made : goal.returns-then-n-eq0-clause-made
returns-then-n-eq0-clause-made g c = times_none g.N.Machine g.N.Nodes (g.O.Ops.meaning c.args.ops.now) c.args.step (rows_of c.args.hubs.now.items c.args.feeds.now.items c.args.subscriptions.now.items) c.args.out.now

pub loop-made-preserved : goal.loop-made-preserved
loop-made-preserved g c =
    let m = g.O.Ops.meaning c.args.ops.now in
    let i = c.loop-made.invariant in
    let k = c.make_into-in-loop-made.ensures in
    let first = rows_of c.args.hubs.now.items c.args.feeds.now.items c.args.subscriptions.now.items in
    let before = rows_of c.loop-made.hubs.items c.loop-made.feeds.items c.loop-made.subscriptions.items in
    let after = rows_of c.make_into-in-loop-made.new.hubs.items c.make_into-in-loop-made.new.feeds.items c.make_into-in-loop-made.new.subscriptions.items in
    record {
      hubs = k.hubs ∙ i.hubs;
      feeds = k.feeds ∙ i.feeds;
      subscriptions = k.subscriptions ∙ i.subscriptions;
      made = times_on g.N.Machine g.N.Nodes m c.args.step c.loop-made.made first before after c.args.out.now c.loop-made.out c.make_into-in-loop-made.new.out i.made c.in-Ok-make_into.ensures.made;
    }
