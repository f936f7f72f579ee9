use Rattle.std.proofs.Common.{◌∙◌, ◌<◌, arith, length, refl, sym}
use Rattle.std.proofs.lemmas.Option.{slice_get_read}
use Rattle.rsx_graph_state.proofs.Calls.{known_feed, unknown_feed, unknown_hub}
use Rattle.rsx_graph_state.proofs.Places.{feed_placed, placed_feed}
use Rattle.rsx_graph_state.specs.Moves.{rows_of}
use Rattle.rsx_graph_calls.proofs.trees.notes_of_feed.Goals as goal

pub returns-then-hub-hubs-clause-err : goal.returns-then-hub-hubs-clause-err
returns-then-hub-hubs-clause-err g c = λ subs. unknown_hub c.args.hub.0 (rows_of c.args.hubs.now c.args.feeds.now subs) (omega (arith, c.if-hub-hubs.true))

pub returns-in_default-clause-err : goal.returns-in_default-clause-err
returns-in_default-clause-err g c = λ subs.
    let within : c.args.hub.0 < length c.args.hubs.now = omega (arith, c.if-hub-hubs.false) in
    unknown_feed c.args.hub.0 (rows_of c.args.hubs.now c.args.feeds.now subs) within (sym c.place_of.ensures ∙ c.in_default.is)

pub offset_bounds-feeds-at : goal.offset_bounds-feeds-at
offset_bounds-feeds-at g c = let less = (feed_placed c.args.feeds.now c.args.hub.0 c.in-Some.at (sym c.place_of.ensures ∙ c.in-Some.is)).within in omega (arith, less)

pub bounds-feeds-at : goal.bounds-feeds-at
bounds-feeds-at g c = (feed_placed c.args.feeds.now c.args.hub.0 c.in-Some.at (sym c.place_of.ensures ∙ c.in-Some.is)).within

pub returns-in-Ok-clause-notes : goal.returns-in-Ok-clause-notes
returns-in-Ok-clause-notes g c = λ subs.
    let fs = c.args.feeds.now in
    let place = sym c.place_of.ensures ∙ c.in-Some.is in
    let within : c.args.hub.0 < length c.args.hubs.now = omega (arith, c.if-hub-hubs.false) in
    let x = c.index-feeds-at.result in
    let there = slice_get_read fs (length fs) c.in-Some.at x refl (feed_placed fs c.args.hub.0 c.in-Some.at place).within c.index-feeds-at.is in
    record {
      known = known_feed c.args.hub.0 c.in-Some.at (rows_of c.args.hubs.now fs subs) within place;
      feed = x;
      there = placed_feed fs c.args.hub.0 c.in-Some.at x place there;
      notes = c.in-Ok.ensures;
    }

pub returns-in-Err-clause-err : goal.returns-in-Err-clause-err
returns-in-Err-clause-err g c = λ subs.
    let within : c.args.hub.0 < length c.args.hubs.now = omega (arith, c.if-hub-hubs.false) in
    known_feed c.args.hub.0 c.in-Some.at (rows_of c.args.hubs.now c.args.feeds.now subs) within (sym c.place_of.ensures ∙ c.in-Some.is)
