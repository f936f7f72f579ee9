use Rattle.rsx_serialized.specs.Driven.{TapCancels}
use Rattle.rsx_serialized.proofs.Drives.{tap_moved, tap_read}
use Rattle.rsx_serialized.proofs.driven.cancel_at.Goals as goal

pub cancel-requires-after_bounds : goal.cancel-requires-after_bounds
cancel-requires-after_bounds g c κs within = tap_read c.args.graph.now.links.taps.items c.args.taps.now.items c.args.place c.index_mut.result.now c.requires c.index_mut.ensures.value

pub returns : goal.returns
returns g c =
    let t = c.cancel.ensures in
    let e = t.end in
    tap_moved c.args.graph.now.links.taps.items c.args.taps.now.items c.args.place c.index_mut.result.now c.requires c.index_mut.ensures.value c.cancel.new.tap TapCancels (e.0, e.1, e.2.0) (record { down = e.2.1; cancellers = e.2.2; cancelled = t.cancelled; gave = t.given; state = t.state; still = t.still })
