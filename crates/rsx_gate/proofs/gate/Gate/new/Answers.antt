use Rattle.rsx_gate.proofs.Keeps.{opens}
use Rattle.rsx_gate.proofs.gate.Gate.new.Goals as goal

pub new-requires : goal.new-requires
new-requires g c = let key = c.args.key.now in opens (g.T.Kept.fits key) key _ _ c.args.value c.in-Ok.ensures.items c.push_reserved.ensures.items c.requires
