use Rattle.rsx_region.proofs.AtOnce.{sending_one}
use Rattle.rsx_region.proofs.many.put_all.Goals as goal

pub loop-item-preserved : goal.loop-item-preserved
loop-item-preserved g c = sending_one c.args.link.now c.args.up.now c.loop-item.up c.put.new.self c.args.items.now.items c.loop-item.items.items c.pop.new.self.items c.in-Some.item c.loop-item.invariant c.in-Some.ensures.items c.put.ensures.same c.put.ensures.sent c.put.ensures.room
