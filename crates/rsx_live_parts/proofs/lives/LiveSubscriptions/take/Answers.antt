use Rattle.std.proofs.Common.{inr}
use Rattle.rsx_live_parts.specs.Tapping.{Takes}
use Rattle.rsx_live_parts.proofs.Taps.{tap_there, tap_went}
use Rattle.rsx_live_parts.proofs.lives.LiveSubscriptions.take.Goals as goal

pub take_at-requires-after_bounds : goal.take_at-requires-after_bounds
take_at-requires-after_bounds g c κs within = tap_there c.args.self.now.live.links.items c.args.self.now.kept.items c.args.sub c.args.taps.now.items c.in-Some.place c.deref.result.now c.requires c.deref.ensures.value c.in-Some.ensures.some

pub returns : goal.returns
returns g c =
    let d = tap_went c.args.self.now.live.links.items c.args.self.now.kept.items c.args.sub c.args.taps.now.items c.in-Some.place c.deref.result.now c.requires c.deref.ensures.value c.in-Some.ensures.some c.take_at.new.taps.items (Takes c.take_at.result) c.take_at.ensures in
    record { taps = d.taps; took = inr d.changed; none = λ no. absurd (d.has no) }
