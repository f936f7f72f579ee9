use Rattle.rsx_live_parts.specs.Tapping.{TapCancels}
use Rattle.rsx_live_parts.proofs.Taps.{over_link, tap_moved}
use Rattle.rsx_live_parts.proofs.tapping.cancel_at.Goals as goal

pub cancel-requires-after_bounds : goal.cancel-requires-after_bounds
cancel-requires-after_bounds g c κs within = over_link c.args.live.now.links.items c.args.taps.now.items c.args.place c.index_mut-tap.result.now c.requires c.index_mut-tap.ensures.value

pub returns : goal.returns
returns g c =
    let t = c.cancel.ensures in
    let e = t.end in
    tap_moved c.args.live.now.links.items c.args.taps.now.items c.args.place c.index_mut-tap.result.now c.requires c.index_mut-tap.ensures.value c.cancel.new.self TapCancels (e.0, e.1, e.2.0) (record { down = e.2.1; cancellers = e.2.2; cancelled = t.cancelled; gave = t.given; state = t.state; still = t.still })
