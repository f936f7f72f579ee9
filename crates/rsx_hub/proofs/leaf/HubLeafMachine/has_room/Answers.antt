use Rattle.std.proofs.Common.{◌∙◌}
use Rattle.rsx_hub.proofs.Leaves.{room_is}
use Rattle.rsx_hub.proofs.leaf.HubLeafMachine.has_room.Goals as goal

pub returns : goal.returns
returns g c = c.can_take_in.ensures.room ∙ rw (← c.self.view_is) (room_is c.self.inside.hub c.self.inside.missed c.self.inside.before c.self.inside.member c.self.invariant c.can_take_in.ensures.positive)
