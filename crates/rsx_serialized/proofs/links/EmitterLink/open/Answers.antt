use Rattle.std.proofs.Common.{refl}
use Rattle.rsx_serialized.proofs.Opens.{emitter_link}
use Rattle.rsx_serialized.proofs.links.EmitterLink.open.Goals as goal

pub returns : goal.returns
returns g c = emitter_link c.args.hub _ c.args.number c.args.accepted c.min.result c.args.ended c.in_ok-link.link c.in_ok-link.up c.in_ok-link.down c.in_ok-link.seat c.new.result c.min.ensures refl c.in_ok-link.ensures c.new.ensures
