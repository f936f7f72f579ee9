use Rattle.std.proofs.Common.{◌∙◌, Option, arith, length, refl, subst, sym}
use Rattle.std.proofs.lemmas.Option.{slice_get_read}
use Rattle.std.specs.Prelude.{IfOk}
use Rattle.rsx_graph_state.proofs.Places.{feed_placed, placed_feed, unfed_there}
use Rattle.rsx_pipe.specs.Part.{IsPartResidual}
use Rattle.rsx_graph_state.specs.declared.feed.Feed.{Feed}
use Rattle.rsx_graph_calls.specs.ToCome.{IsToCome}
use Rattle.rsx_graph_calls.proofs.to_come.next_to_come.Goals as goal

pub bounds-feeds-at : goal.bounds-feeds-at
bounds-feeds-at g c = (feed_placed c.args.feeds.now (length c.args.before.now) c.in-Some.at (sym c.place_of.ensures ∙ c.in-Some.is)).within

pub offset_bounds-feeds-at : goal.offset_bounds-feeds-at
offset_bounds-feeds-at g c = let less = (feed_placed c.args.feeds.now (length c.args.before.now) c.in-Some.at (sym c.place_of.ensures ∙ c.in-Some.is)).within in omega (arith, less)

pub returns-in-Some : goal.returns-in-Some
returns-in-Some g c =
    let fs = c.args.feeds.now in
    let n = length c.args.before.now in
    let x = c.index-feeds-at.result in
    let place = sym c.place_of.ensures ∙ c.in-Some.is in
    let there = slice_get_read fs (length fs) c.in-Some.at x refl (feed_placed fs n c.in-Some.at place).within c.index-feeds-at.is in
    let P : Option (Feed _) → Type 0 = λ o. IfOk c.residual.result (λ v. IsToCome g.N.Machine (g.O.Ops.meaning c.args.ops.now) c.args.before.now c.args.hub.now o v) in
    let R : Feed _ → Type 0 = λ f. IfOk c.residual.result (λ v. IsPartResidual g.N.Machine (g.O.Ops.meaning c.args.ops.now) c.args.before.now f.part v) in
    subst P (sym (placed_feed fs n c.in-Some.at x place there)) (subst R (sym c.index-feeds-at.is) c.residual.ensures)

pub returns-in-None : goal.returns-in-None
returns-in-None g c =
    let P : Option (Feed _) → Type 0 = λ o. IfOk c.inbox.result (λ v. IsToCome g.N.Machine (g.O.Ops.meaning c.args.ops.now) c.args.before.now c.args.hub.now o v) in
    subst P (sym (unfed_there c.args.feeds.now (length c.args.before.now) (sym c.place_of.ensures ∙ c.in-None.is))) c.inbox.ensures
