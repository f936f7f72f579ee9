use Rattle.std.proofs.Common.{◌<◌, ◌≤◌, length, ◌∙◌, arith}
use Rattle.std.proofs.lemmas.List.{length-set}
use Rattle.rsx_graph_state.specs.Feeds.{IsFeedHanded, has_room_at, reads_at}
use Rattle.rsx_graph_state.proofs.Handing.{handed_on, handed_through, rest_on}
use Rattle.rsx_graph_state.proofs.publishing.hand_to_feeds.Goals as goal

pub loop-feed-preserved : goal.loop-feed-preserved
loop-feed-preserved g c =
    let i = c.loop-feed.invariant in
    let at = c.loop-feed.feed-index in
    let xs = c.args.feeds.now in
    let ys = c.loop-feed.feeds in
    let x = c.feed-item.result in
    let h = c.args.number in
    let count = i.count in
    let within : at < length xs = omega (arith, count) in record {
      count = length-set ys at c.hand.new.self ∙ count;
      rest = rest_on at xs ys x c.hand.new.self count within i.rest;
      handed = handed_on (reads_at g.N.Machine h) (has_room_at g.N.Machine h) (IsFeedHanded g.N.Machine h) at xs ys x c.hand.new.self c.args.signals.now.items c.loop-feed.signals.items c.hand.new.signals.items count within i.rest i.handed c.hand.ensures;
    }

pub returns : goal.returns
returns g c =
    let i = c.loop-feed.invariant in
    let at = c.loop-feed.feed-index in
    let xs = c.args.feeds.now in
    let h = c.args.number in
    let count = i.count in
    let done : length xs ≤ at = omega (arith, count) in
    handed_through (reads_at g.N.Machine h) (has_room_at g.N.Machine h) (IsFeedHanded g.N.Machine h) at xs c.loop-feed.feeds c.args.signals.now.items c.loop-feed.signals.items count done i.handed
