use Rattle.std.proofs.Common.{◌<◌, arith, length, refl}
use Rattle.std.proofs.lemmas.Option.{slice_get_read, slice_get_within}
use Rattle.rsx_serialized.proofs.Starts.{fed_by, unfed_where}
use Rattle.rsx_serialized.proofs.emitter_links.is_fed.Goals as goal

pub returns-then-feed-hub : goal.returns-then-feed-hub
returns-then-feed-hub g c =
    let less : c.loop-feed.feed-index < length c.args.feeds.now = omega arith in
    fed_by c.args.feeds.now c.loop-feed.feed-index c.feed-item.result c.args.hub (slice_get_read c.args.feeds.now (length c.args.feeds.now) c.loop-feed.feed-index c.feed-item.result refl less c.feed-item.is) c.if-feed-hub.true

pub returns : goal.returns
returns g c = unfed_where c.args.feeds.now c.args.hub (λ k f at. c.loop-feed.invariant k f (let within = slice_get_within c.args.feeds.now k f at in omega (arith, within, c.loop-feed-test.false)) at)
