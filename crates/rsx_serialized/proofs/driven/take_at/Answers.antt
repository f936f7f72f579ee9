use Rattle.rsx_serialized.specs.Driven.{Takes}
use Rattle.rsx_serialized.proofs.Drives.{tap_moved, tap_read}
use Rattle.rsx_serialized.proofs.driven.take_at.Goals as goal

pub take-requires-after_bounds : goal.take-requires-after_bounds
take-requires-after_bounds g c κs within = tap_read c.args.graph.now.links.taps.items c.args.taps.now.items c.args.place c.index_mut.result.now c.requires c.index_mut.ensures.value

pub returns : goal.returns
returns g c =
    let t = c.take.ensures in
    let e = t.end in
    tap_moved c.args.graph.now.links.taps.items c.args.taps.now.items c.args.place c.index_mut.result.now c.requires c.index_mut.ensures.value c.take.new.tap (Takes c.take.result) (e.0, e.1, e.2.0) (record { seat = e.2.1; asked = e.2.2; some = t.some; none = t.none; still = t.still })
