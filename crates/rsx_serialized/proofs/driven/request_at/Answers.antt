use Rattle.std.proofs.Common.{w64}
use Rattle.std.proofs.lemmas.Int.{to_z-of_z}
use Rattle.rsx_serialized.specs.Driven.{TapRequests}
use Rattle.rsx_serialized.proofs.Drives.{requests_as, tap_moved, tap_read}
use Rattle.rsx_serialized.proofs.driven.request_at.Goals as goal

pub request-requires-after_bounds : goal.request-requires-after_bounds
request-requires-after_bounds g c κs within = tap_read c.args.graph.now.links.taps.items c.args.taps.now.items c.args.place c.index_mut.result.now c.requires c.index_mut.ensures.value

pub returns : goal.returns
returns g c =
    let t = c.request.ensures in
    let e = t.end in
    let was = c.index_mut.result.now in
    let now = c.request.new.tap in
    tap_moved c.args.graph.now.links.taps.items c.args.taps.now.items c.args.place c.index_mut.result.now c.requires c.index_mut.ensures.value now (TapRequests c.args.n c.request.result) (e.0, e.1, e.2.0)
    (requests_as _ c.args.n c.request.result was now (to_z-of_z w64 c.args.n c.ranges.n) (record { seat = e.2.1; asked = t.asked; gave = t.given; state = t.state; still = t.still }))
