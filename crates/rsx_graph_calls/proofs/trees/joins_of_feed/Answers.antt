use Rattle.std.proofs.Common.{◌≡◌, ◌∙◌, ◌<◌, arith, length, sym}
use Rattle.rsx_graph_state.proofs.Calls.{known_feed, unknown_feed, unknown_hub}
use Rattle.rsx_graph_state.proofs.Places.{feed_placed}
use Rattle.rsx_graph_state.specs.Moves.{rows_of}
use Rattle.rsx_graph_calls.proofs.trees.joins_of_feed.Goals as goal

pub returns-then-hub-hubs-clause-err : goal.returns-then-hub-hubs-clause-err
returns-then-hub-hubs-clause-err g c = λ subs. unknown_hub c.args.hub.0 (rows_of c.args.hubs.now c.args.feeds.now subs) (omega (arith, c.if-hub-hubs.true))

pub returns-in_default-clause-err : goal.returns-in_default-clause-err
returns-in_default-clause-err g c = λ subs.
    let within : c.args.hub.0 < length c.args.hubs.now = omega (arith, c.if-hub-hubs.false) in
    unknown_feed c.args.hub.0 (rows_of c.args.hubs.now c.args.feeds.now subs) within (sym c.place_of.ensures ∙ c.in_default.is)

pub copied_at-requires : goal.copied_at-requires
copied_at-requires g c =
    let less = (feed_placed c.args.feeds.now c.args.hub.0 c.in-Some.at (sym c.place_of.ensures ∙ c.in-Some.is)).within in
    let beside : length c.args.feed_joins.now ≡ length c.args.feeds.now = c.requires.beside in
    omega (arith, less, beside)

pub returns-in-Ok-clause-joins : goal.returns-in-Ok-clause-joins
returns-in-Ok-clause-joins g c = (c.in-Some.at, sym c.place_of.ensures ∙ c.in-Some.is, c.in-Ok.ensures)

pub returns-in-Err-clause-err : goal.returns-in-Err-clause-err
returns-in-Err-clause-err g c = λ subs.
    let within : c.args.hub.0 < length c.args.hubs.now = omega (arith, c.if-hub-hubs.false) in
    known_feed c.args.hub.0 c.in-Some.at (rows_of c.args.hubs.now c.args.feeds.now subs) within (sym c.place_of.ensures ∙ c.in-Some.is)
