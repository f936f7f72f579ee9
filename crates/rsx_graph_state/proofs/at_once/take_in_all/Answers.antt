use Rattle.std.proofs.Common.{rules}
use Rattle.rsx_graph_state.proofs.Accepts.{handed_all}
use Rattle.rsx_graph_state.proofs.at_once.take_in_all.Goals as goal

pub returns-clause-made : goal.returns-clause-made
returns-clause-made g c =
    (handed_all g.N.Machine g.N.Batches.spaces_of c.from-number.result c.args.number c.len-count.result c.in-Some.readers c.args.hub.now c.lay_out.new.hub c.args.feeds.now c.hand_all_feeds.new.feeds c.args.subscriptions.now c.hand_all.new.subscriptions c.lay_out.new.items.items c.hand_all_feeds.new.items.items c.hand_all.new.items.items c.lay_out.result
    c.from-number.ensures c.len-count.ensures (c.keeps_none.ensures.0 c.if-not-keeps_none.false) c.in-Some.ensures.some.0 c.in-Some.ensures.feeds c.in-Some.ensures.room (search rules) c.lay_out.ensures.items c.lay_out.ensures.taken c.hand_all_feeds.ensures c.hand_all.ensures).0

pub returns-clause-empty : goal.returns-clause-empty
returns-clause-empty g c =
    (handed_all g.N.Machine g.N.Batches.spaces_of c.from-number.result c.args.number c.len-count.result c.in-Some.readers c.args.hub.now c.lay_out.new.hub c.args.feeds.now c.hand_all_feeds.new.feeds c.args.subscriptions.now c.hand_all.new.subscriptions c.lay_out.new.items.items c.hand_all_feeds.new.items.items c.hand_all.new.items.items c.lay_out.result
    c.from-number.ensures c.len-count.ensures (c.keeps_none.ensures.0 c.if-not-keeps_none.false) c.in-Some.ensures.some.0 c.in-Some.ensures.feeds c.in-Some.ensures.room (search rules) c.lay_out.ensures.items c.lay_out.ensures.taken c.hand_all_feeds.ensures c.hand_all.ensures).1
