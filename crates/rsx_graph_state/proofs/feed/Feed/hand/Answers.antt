use Rattle.rsx_graph_state.proofs.OneFeed.{handed_feed, is_before, none_handed, not_before}
use Rattle.rsx_graph_state.proofs.feed.Feed.hand.Goals as goal

pub returns-then-hub-from : goal.returns-then-hub-from
returns-then-hub-from g c = handed_feed g.N.Machine c.args.hub c.args.self.now c.hand.new.self c.args.signals.now.items c.hand.new.signals.items (is_before c.args.hub c.args.self.now.hub c.from.result c.from.ensures c.if-hub-from.true) c.hand.ensures

pub returns-else-hub-from : goal.returns-else-hub-from
returns-else-hub-from g c = none_handed g.N.Machine c.args.hub c.args.self.now c.args.signals.now.items (not_before c.args.hub c.args.self.now.hub c.from.result c.from.ensures c.if-hub-from.false)
