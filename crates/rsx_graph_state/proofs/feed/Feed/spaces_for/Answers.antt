use Rattle.rsx_graph_state.proofs.OneFeed.{is_before, not_before, spaces_before, spaces_behind}
use Rattle.rsx_graph_state.proofs.feed.Feed.spaces_for.Goals as goal

pub returns-then-hub-from : goal.returns-then-hub-from
returns-then-hub-from g c = spaces_before g.N.Machine g.N.Batches.spaces_of c.args.hub c.args.most c.spaces_for.result c.args.self.now (is_before c.args.hub c.args.self.now.hub c.from.result c.from.ensures c.if-hub-from.true) c.spaces_for.ensures

pub returns : goal.returns
returns g c = spaces_behind g.N.Machine g.N.Batches.spaces_of c.args.hub c.args.most c.args.self.now (not_before c.args.hub c.args.self.now.hub c.from.result c.from.ensures c.if-hub-from.false)
