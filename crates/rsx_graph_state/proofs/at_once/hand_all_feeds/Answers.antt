use Rattle.std.proofs.Common.{◌<◌, ◌≤◌, arith, length}
use Rattle.rsx_graph_state.specs.Feeds.{IsItemHandedToFeed, reads_at, spaces_at}
use Rattle.rsx_graph_state.proofs.AllAtOnce.{IsFedOn, far_begun, far_ended, far_handed, feed_fits, feeds_item_by_item}
use Rattle.rsx_graph_state.proofs.at_once.hand_all_feeds.Goals as goal

pub loop-feed-init : goal.loop-feed-init
unfolding IsFedOn
loop-feed-init g c = λ most before given all len fits. far_begun (reads_at g.N.Machine c.args.number) (IsItemHandedToFeed g.N.Machine c.args.number) before given c.args.feeds.now c.args.items.now.items all

pub loop-feed-preserved : goal.loop-feed-preserved
unfolding IsFedOn
loop-feed-preserved g c = λ most before given all len fits.
    let h = c.args.number in
    let at = c.loop-feed.feed-index in
    let xs = c.args.feeds.now in
    let begun = c.loop-feed.invariant most before given all len fits in
    let count = begun.far.count in
    let within : at < length xs = omega (arith, count) in
    far_handed (reads_at g.N.Machine h) (spaces_at g.N.Machine g.N.Batches.spaces_of h) (IsItemHandedToFeed g.N.Machine h) c.args.count before given at xs c.loop-feed.feeds c.feed-item.result c.hand_many.new.self c.loop-feed.items.items c.hand_many.new.items.items within len
    (λ f there. feed_fits g.N.Machine g.N.Batches.spaces_of h c.args.count most at xs fits f there) c.hand_many.ensures begun

pub returns : goal.returns
unfolding IsFedOn
returns g c most before given all len fits =
    let h = c.args.number in
    let at = c.loop-feed.feed-index in
    let xs = c.args.feeds.now in
    let begun = c.loop-feed.invariant most before given all len fits in
    let count = begun.far.count in
    let done : length xs ≤ at = omega (arith, count) in
    let k = far_ended (reads_at g.N.Machine h) (IsItemHandedToFeed g.N.Machine h) before given at xs c.loop-feed.feeds c.loop-feed.items.items done begun in
    (feeds_item_by_item g.N.Machine h given xs c.loop-feed.feeds k.0, k.1)
