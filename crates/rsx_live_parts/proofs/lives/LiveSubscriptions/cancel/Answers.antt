use Rattle.std.proofs.Common.{inr}
use Rattle.rsx_live_parts.specs.Tapping.{TapCancels}
use Rattle.rsx_live_parts.proofs.Taps.{tap_there, tap_went}
use Rattle.rsx_live_parts.proofs.lives.LiveSubscriptions.cancel.Goals as goal

pub cancel_at-requires-after_bounds : goal.cancel_at-requires-after_bounds
cancel_at-requires-after_bounds g c κs within = tap_there c.args.self.now.live.links.items c.args.self.now.kept.items c.args.sub c.args.taps.now.items c.in-Some.place c.deref.result.now c.requires c.deref.ensures.value c.in-Some.ensures.some

pub returns : goal.returns
returns g c =
    let d = tap_went c.args.self.now.live.links.items c.args.self.now.kept.items c.args.sub c.args.taps.now.items c.in-Some.place c.deref.result.now c.requires c.deref.ensures.value c.in-Some.ensures.some c.cancel_at.new.taps.items TapCancels c.cancel_at.ensures in
    record { taps = d.taps; cancelled = inr d.changed; none = λ no. absurd (d.has no) }
