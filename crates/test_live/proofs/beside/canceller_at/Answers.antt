use Rattle.std.proofs.Common.{◌∙◌, ap, refl, slice_get}
use Rattle.rsx_live_parts.proofs.Taps.{read_there, tap_over, taps_set}
use Rattle.test_live.proofs.Cancelling.{halved, of_same, tap_of_same}
use Rattle.test_live.proofs.beside.canceller_at.Goals as goal

pub canceller-requires-after_bounds : goal.canceller-requires-after_bounds
canceller-requires-after_bounds c κs =
    let live = c.args.graph.now.subs.live in
    let kept = c.args.graph.now.subs.kept.items in
    let ts = c.args.taps.now.items in
    let tap = c.index_mut-tap.result.now in
    let at = read_there ts c.args.place c.args.place tap refl c.requires.there c.index_mut-tap.ensures.value in
    let over = tap_over live.links.items kept 0 ts c.args.place tap c.requires.taps at in
    tap_of_same c.live.result.now live tap c.live.ensures over

pub returns-clause-taps : goal.returns-clause-taps
returns-clause-taps c =
    let e = c.canceller.ensures in
    let live = c.args.graph.now.subs.live in
    let kept = c.args.graph.now.subs.kept.items in
    let ts = c.args.taps.now.items in
    let tap = c.index_mut-tap.result.now in
    let now = c.canceller.new.self in
    let at = read_there ts c.args.place c.args.place tap refl c.requires.there c.index_mut-tap.ensures.value in
    let over = tap_over live.links.items kept 0 ts c.args.place tap c.requires.taps at in
    let made = of_same c.live.result.now live tap now c.canceller.result.seat c.live.ensures e.end in
    taps_set live.links.items kept 0 ts c.args.place tap now c.requires.taps at (halved live.links.items tap now c.canceller.result.seat made over e.same.0 e.same.1 e.same.2)

pub returns-clause-canceller : goal.returns-clause-canceller
returns-clause-canceller c =
    let e = c.canceller.ensures in
    let live = c.args.graph.now.subs.live in
    let made = of_same c.live.result.now live c.index_mut-tap.result.now c.canceller.new.self c.canceller.result.seat c.live.ensures e.end in
    (made.0, ap (slice_get live.links.items) e.new.1 ∙ made.1, made.2.1)
