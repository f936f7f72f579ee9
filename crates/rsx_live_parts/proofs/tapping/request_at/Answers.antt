use Rattle.std.proofs.Common.{w64}
use Rattle.std.proofs.lemmas.Int.{to_z-of_z}
use Rattle.rsx_live_parts.specs.Tapping.{TapRequests}
use Rattle.rsx_live_parts.proofs.Taps.{over_link, requests_as, tap_moved}
use Rattle.rsx_live_parts.proofs.tapping.request_at.Goals as goal

pub request-requires-after_bounds : goal.request-requires-after_bounds
request-requires-after_bounds g c κs within = over_link c.args.live.now.links.items c.args.taps.now.items c.args.place c.index_mut-tap.result.now c.requires c.index_mut-tap.ensures.value

pub returns : goal.returns
returns g c =
    let t = c.request.ensures in
    let e = t.end in
    let was = c.index_mut-tap.result.now in
    let now = c.request.new.self in
    tap_moved c.args.live.now.links.items c.args.taps.now.items c.args.place was c.requires c.index_mut-tap.ensures.value now (TapRequests c.args.n c.request.result) (e.0, e.1, e.2.0)
    (requests_as _ c.args.n c.request.result was now (to_z-of_z w64 c.args.n c.ranges.n) (record { seat = e.2.1; asked = t.asked; gave = t.given; state = t.state; still = t.still }))
