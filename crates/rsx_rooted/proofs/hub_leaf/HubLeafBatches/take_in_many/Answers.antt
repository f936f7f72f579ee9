use Rattle.rsx_rooted.proofs.HubLeaves.{all_taken}
use Rattle.rsx_rooted.proofs.hub_leaf.HubLeafBatches.take_in_many.Goals as goal

pub returns : goal.returns
returns g c = all_taken c.args.count c.args.self.now c.take_in_many.new.self c.args.items.now.items c.take_in_many.new.items.items c.take_in_many.ensures
