use Rattle.rsx_live_parts.specs.Tapping.{Takes}
use Rattle.rsx_live_parts.proofs.Taps.{over_link, tap_moved}
use Rattle.rsx_live_parts.proofs.tapping.take_at.Goals as goal

pub take-requires-after_bounds : goal.take-requires-after_bounds
take-requires-after_bounds g c κs within = over_link c.args.live.now.links.items c.args.taps.now.items c.args.place c.index_mut-tap.result.now c.requires c.index_mut-tap.ensures.value

pub returns : goal.returns
returns g c =
    let t = c.take.ensures in
    let e = t.end in
    tap_moved c.args.live.now.links.items c.args.taps.now.items c.args.place c.index_mut-tap.result.now c.requires c.index_mut-tap.ensures.value c.take.new.self (Takes c.take.result) (e.0, e.1, e.2.0) (record { seat = e.2.1; asked = e.2.2; some = t.some; none = t.none; still = t.still })
