use Rattle.std.proofs.Common.{arith}
use Rattle.std.proofs.lemmas.List.{at_drop_all}
use Rattle.rsx_graph_state.specs.Feeds.{reads_at}
use Rattle.rsx_graph_state.specs.Publishing.{feed_readers}
use Rattle.rsx_graph_state.proofs.Handing.{total_next}
use Rattle.rsx_graph_state.proofs.publishing.feed_readers_up_to.Goals as goal

pub loop-feed-preserved : goal.loop-feed-preserved
loop-feed-preserved g c =
    let i = c.loop-feed.invariant in
    let more = total_next (reads_at g.N.Machine c.args.number) c.loop-feed.feed-index c.args.feeds.now c.feed-item.result c.loop-feed-test.true c.feed-item.is in
    let here = c.readers_up_to-found.ensures in
    let rest = i.rest in
    let within = i.within in record {
      within = omega (arith, here, within);
      rest = omega (arith, here, within, rest, more);
    }

pub returns : goal.returns
returns g c =
    let i = c.loop-feed.invariant in
    let rest = i.rest in
    let within = i.within in
    let none = at_drop_all (feed_readers g.N.Machine c.args.number) c.args.feeds.now c.loop-feed.feed-index (omega arith) in
    omega (arith, rest, within, none)
