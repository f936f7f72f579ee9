use Rattle.std.proofs.Common.{◌<◌, arith, length, refl}
use Rattle.rsx_serialized.proofs.Drives.{changes_did, tap_found, taps_started}
use Rattle.rsx_serialized.proofs.starting.StartedGraph.cancel.Goals as goal

pub cancel_at-requires-after_bounds : goal.cancel_at-requires-after_bounds
cancel_at-requires-after_bounds g c κs within =
    let len = c.len.ensures in
    let items = c.args.self.now.taps.ok.0 in
    let less : c.args.sub.0 < length c.args.self.now.taps.items = omega (arith, len, items, c.if-place-len.false) in
    tap_found c.args.self.now c.requires c.args.sub.0 less

pub returns : goal.returns
returns g c =
    let s = c.args.self.now in
    let ch = c.cancel_at.ensures in
    let len = c.len.ensures in
    let items = s.taps.ok.0 in
    let less : c.args.sub.0 < length s.taps.items = omega (arith, len, items, c.if-place-len.false) in
    record {
      started = taps_started s c.requires c.cancel_at.new.taps c.args.sub.0 _ ch;
      same = (refl, refl, refl);
      cancelled = λ there. changes_did c.args.sub.0 s.taps.items c.cancel_at.new.taps.items _ _ ch;
      none = λ past. absurd (omega (arith, less, past));
    }
