use Rattle.rsx_live_parts.proofs.Staying.{all_stay}
use Rattle.rsx_live_parts.proofs.kept.Parted.of.Goals as goal

pub returns-clause-stay : goal.returns-clause-stay
returns-clause-stay g c = all_stay g.N.Machine c.in-Ok.parted c.add_each.new.self c.in-Ok.ensures.none.3 c.add_each.ensures.stay
