use Rattle.rsx_rooted.proofs.HubLeaves.{given_all}
use Rattle.rsx_rooted.proofs.hub_leaf.HubLeafBatches.peek.Goals as goal

pub returns-in-Ok-clause-popped : goal.returns-in-Ok-clause-popped
returns-in-Ok-clause-popped g c =
    given_all (g.O.Ops.meaning c.args.ops.now) c.args.most c.args.self.now c.args.items.now.items c.copy_first.new.all.items c.requires c.in-Ok.ensures.ok c.in-Ok.ensures.member
