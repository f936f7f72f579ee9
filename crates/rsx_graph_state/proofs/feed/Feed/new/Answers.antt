use Rattle.rsx_pipe.specs.Built.{new_joins}
use Rattle.rsx_graph_state.proofs.OneFeed.{asked_all_of, begun_root, fresh_feed, fresh_unclosed}
use Rattle.rsx_graph_state.proofs.feed.Feed.new.Goals as goal

pub returns-clause-stands : goal.returns-clause-stands
returns-clause-stands g c = λ m hubs e published number built taken.
    let first = c.new-part.result in
    let k = c.new-part.ensures in
    fresh_feed g.N.Machine m hubs published first c.request.new.self _ e (new_joins hubs e) taken number (k.stands m hubs e published built taken) (c.request.ensures.stands m)
    (asked_all_of first c.request.new.self k.root c.request.ensures.asked)
    (fresh_unclosed first c.request.new.self k.root c.request.ensures.state)

pub returns-clause-root : goal.returns-clause-root
returns-clause-root g c =
    let root = c.new-part.ensures.root in
    let e = c.request.ensures in
    begun_root c.new-part.result c.request.new.self root (asked_all_of c.new-part.result c.request.new.self root e.asked) e.sent e.state
