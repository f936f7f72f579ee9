use Rattle.std.proofs.Common.{true, false, sym, ◌∙◌}
use Rattle.std.proofs.lemmas.List.{at_drop_all}
use Rattle.rsx_graph_state.specs.Feeds.{has_room_at}
use Rattle.rsx_graph_state.specs.Publishing as spec
use Rattle.rsx_graph_state.proofs.Handing.{every_next}
use Rattle.rsx_graph_state.proofs.publishing.feeds_have_room.Goals as goal

pub returns-then-not-has_room_for : goal.returns-then-not-has_room_for
returns-then-not-has_room_for g c =
    sym (every_next (has_room_at g.N.Machine c.args.number) c.loop-feed.feed-index c.args.feeds.now c.feed-item.result false c.loop-feed-test.true c.feed-item.is (sym c.has_room_for.ensures ∙ c.if-not-has_room_for.true))
    ∙ c.loop-feed.invariant

pub loop-feed-preserved : goal.loop-feed-preserved
loop-feed-preserved g c =
    sym (every_next (has_room_at g.N.Machine c.args.number) c.loop-feed.feed-index c.args.feeds.now c.feed-item.result true c.loop-feed-test.true c.feed-item.is (sym c.has_room_for.ensures ∙ c.if-not-has_room_for.false))
    ∙ c.loop-feed.invariant

pub returns : goal.returns
returns g c = sym (at_drop_all (spec.feeds_have_room g.N.Machine c.args.number) c.args.feeds.now c.loop-feed.feed-index c.loop-feed-test.false) ∙ c.loop-feed.invariant
