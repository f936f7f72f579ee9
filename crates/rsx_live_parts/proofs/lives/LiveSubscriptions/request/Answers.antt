use Rattle.std.proofs.Common.{inr, w64}
use Rattle.std.proofs.lemmas.Int.{to_z-of_z}
use Rattle.rsx_live_parts.proofs.Taps.{requests_changed, tap_there, tap_went}
use Rattle.rsx_live_parts.proofs.lives.LiveSubscriptions.request.Goals as goal

pub request_at-requires-after_bounds : goal.request_at-requires-after_bounds
request_at-requires-after_bounds g c κs within = tap_there c.args.self.now.live.links.items c.args.self.now.kept.items c.args.sub c.args.taps.now.items c.in-Some.place c.deref.result.now c.requires c.deref.ensures.value c.in-Some.ensures.some

pub returns : goal.returns
returns g c =
    let d = tap_went c.args.self.now.live.links.items c.args.self.now.kept.items c.args.sub c.args.taps.now.items c.in-Some.place c.deref.result.now c.requires c.deref.ensures.value c.in-Some.ensures.some c.request_at.new.taps.items _ c.request_at.ensures in
    record { taps = d.taps; requested = inr (requests_changed _ c.args.n c.request_at.result c.args.sub c.args.taps.now.items c.request_at.new.taps.items (to_z-of_z w64 c.args.n c.ranges.n) d.changed); none = λ no. absurd (d.has no) }
