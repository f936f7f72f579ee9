use Rattle.rsx_graph_state.proofs.OneFeed.{is_before, many_feed, many_none, not_before}
use Rattle.rsx_graph_state.proofs.feed.Feed.hand_many.Goals as goal

pub returns-then-hub-from : goal.returns-then-hub-from
returns-then-hub-from g c most = many_feed g.N.Machine g.N.Batches.spaces_of c.args.hub c.args.count most c.args.self.now c.hand_many.new.self c.args.items.now.items c.hand_many.new.items.items (is_before c.args.hub c.args.self.now.hub c.from.result c.from.ensures c.if-hub-from.true) (c.hand_many.ensures most)

pub returns-else-hub-from : goal.returns-else-hub-from
returns-else-hub-from g c most = many_none g.N.Machine g.N.Batches.spaces_of c.args.hub c.args.count most c.args.self.now c.args.items.now.items (not_before c.args.hub c.args.self.now.hub c.from.result c.from.ensures c.if-hub-from.false)
