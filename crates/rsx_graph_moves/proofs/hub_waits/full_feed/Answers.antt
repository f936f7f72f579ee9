use Rattle.std.proofs.Common.{true, length, refl, sym, ◌∙◌}
use Rattle.std.proofs.lemmas.List.{at_drop_all}
use Rattle.std.proofs.lemmas.Option.{slice_get_read}
use Rattle.rsx_graph_state.specs.Feeds.{has_room_at}
use Rattle.rsx_graph_state.specs.Publishing.{feeds_have_room}
use Rattle.rsx_graph_state.proofs.Handing.{every_next}
use Rattle.rsx_graph_moves.proofs.hub_waits.full_feed.Goals as goal

pub returns-then-not-has_room_for-clause-some : goal.returns-then-not-has_room_for-clause-some
returns-then-not-has_room_for-clause-some g c =
    let feeds = c.args.feeds.now in
    record {
      at = c.loop-feed.feed-index;
      feed = c.feed-item.result;
      there = slice_get_read feeds (length feeds) c.loop-feed.feed-index c.feed-item.result refl c.loop-feed-test.true c.feed-item.is;
      named = refl;
      full = sym c.has_room_for.ensures ∙ c.if-not-has_room_for.true;
    }

pub loop-feed-preserved : goal.loop-feed-preserved
loop-feed-preserved g c =
    sym (every_next (has_room_at g.N.Machine c.args.hub) c.loop-feed.feed-index c.args.feeds.now c.feed-item.result true c.loop-feed-test.true c.feed-item.is (sym c.has_room_for.ensures ∙ c.if-not-has_room_for.false))
    ∙ c.loop-feed.invariant

pub returns-clause-none : goal.returns-clause-none
returns-clause-none g c = sym (sym (at_drop_all (feeds_have_room g.N.Machine c.args.hub) c.args.feeds.now c.loop-feed.feed-index c.loop-feed-test.false) ∙ c.loop-feed.invariant)
