use Rattle.std.proofs.Common.{◌≡◌, length, rules}
use Rattle.rsx_serialized.proofs.Subscribes.{tap_added}
use Rattle.rsx_serialized.proofs.serialized.SerializedGraph.add_tap.Goals as goal

pub returns-in-Ok-clause-taps : goal.returns-in-Ok-clause-taps
returns-in-Ok-clause-taps g c =
    let place : c.args.tap.link ≡ length c.args.taps.now.items = search rules in
    let number : c.args.tap.sub.0 ≡ c.args.tap.link = search rules in
    tap_added c.args.self.now.links.taps.items c.args.taps.now.items c.push.new.self.items c.args.tap c.in-Ok.ensures.items place number c.requires.tap c.requires.taps
