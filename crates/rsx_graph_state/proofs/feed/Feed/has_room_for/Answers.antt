use Rattle.rsx_graph_state.proofs.OneFeed.{is_before, not_before, room_before, room_behind}
use Rattle.rsx_graph_state.proofs.feed.Feed.has_room_for.Goals as goal

pub returns-then-hub-from : goal.returns-then-hub-from
returns-then-hub-from g c = room_before g.N.Machine c.args.hub c.args.self.now c.has_room_for.result (is_before c.args.hub c.args.self.now.hub c.from.result c.from.ensures c.if-hub-from.true) c.has_room_for.ensures

pub returns : goal.returns
returns g c = room_behind g.N.Machine c.args.hub c.args.self.now (not_before c.args.hub c.args.self.now.hub c.from.result c.from.ensures c.if-hub-from.false)
