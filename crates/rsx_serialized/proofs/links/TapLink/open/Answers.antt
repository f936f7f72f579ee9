use Rattle.std.proofs.Common.{refl}
use Rattle.rsx_serialized.proofs.Opens.{tap_link}
use Rattle.rsx_serialized.proofs.links.TapLink.open.Goals as goal

pub returns : goal.returns
returns g c = tap_link c.args.sub _ c.args.number c.args.demand.asked c.args.demand.sent c.args.is_open c.in_ok-link.link c.in_ok-link.up c.in_ok-link.down c.in_ok-link.seat c.new.result c.args.demand.bounded refl c.in_ok-link.ensures c.new.ensures.ends c.new.ensures.state c.new.ensures.given
