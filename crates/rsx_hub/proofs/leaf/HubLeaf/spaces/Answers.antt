use Rattle.std.proofs.Common.{◌∙◌}
use Rattle.rsx_hub.proofs.Spaces.{spaces_is}
use Rattle.rsx_hub.proofs.leaf.HubLeaf.spaces.Goals as goal

pub returns : goal.returns
returns g c = c.spaces.ensures ∙ rw (← c.self.view_is) (spaces_is c.self.inside.hub c.self.inside.missed c.self.inside.before c.self.inside.member c.self.invariant)
