use Rattle.rsx_graph_state.proofs.OneFeed.{is_before, not_before, reads_before, reads_behind}
use Rattle.rsx_graph_state.proofs.feed.Feed.readers_up_to.Goals as goal

pub returns-then-hub-from : goal.returns-then-hub-from
returns-then-hub-from g c = reads_before g.N.Machine c.args.hub c.args.self.now c.readers_up_to.result c.args.most (is_before c.args.hub c.args.self.now.hub c.from.result c.from.ensures c.if-hub-from.true) c.readers_up_to.ensures

pub returns : goal.returns
returns g c = reads_behind g.N.Machine c.args.hub c.args.self.now c.args.most (not_before c.args.hub c.args.self.now.hub c.from.result c.from.ensures c.if-hub-from.false)
