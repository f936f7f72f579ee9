use Rattle.std.proofs.Common.{◌∙◌, ap, length, refl, sym, arith}
use Rattle.std.proofs.lemmas.Option.{slice_get_read}
use Rattle.rsx_graph_state.proofs.Named.{found_first, found_here, found_none, found_on}
use Rattle.rsx_graph_calls.proofs.feeds.place_of.Goals as goal

pub loop-at-init : goal.loop-at-init
loop-at-init g c = found_first c.args.feeds.now c.args.hub

pub returns-then-feeds-at : goal.returns-then-feeds-at
returns-then-feeds-at g c =
    let fs = c.args.feeds.now in
    let x = c.index-feeds-at.result in
    let there = slice_get_read fs (length fs) c.loop-at.at x refl c.loop-at-test.true c.index-feeds-at.is in
    sym (found_here fs c.args.hub c.loop-at.at x there (ap (λ f. f.hub) c.index-feeds-at.is ∙ c.if-feeds-at.true)) ∙ c.loop-at.invariant

pub loop-at-preserved : goal.loop-at-preserved
loop-at-preserved g c =
    let fs = c.args.feeds.now in
    let x = c.index-feeds-at.result in
    let there = slice_get_read fs (length fs) c.loop-at.at x refl c.loop-at-test.true c.index-feeds-at.is in
    sym (found_on fs c.args.hub c.loop-at.at x there (λ q. c.if-feeds-at.false (sym (ap (λ f. f.hub) c.index-feeds-at.is) ∙ q))) ∙ c.loop-at.invariant

pub returns : goal.returns
returns g c = sym (found_none c.args.feeds.now c.args.hub c.loop-at.at (omega (arith, c.loop-at-test.false))) ∙ c.loop-at.invariant
