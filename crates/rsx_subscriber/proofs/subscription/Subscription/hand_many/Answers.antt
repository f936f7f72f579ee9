use Rattle.rsx_pipe.specs.Taking.{spaces_for}
use Rattle.rsx_subscriber.proofs.Publishing.{handed_many}
use Rattle.rsx_subscriber.proofs.subscription.Subscription.hand_many.Goals as goal

pub returns : goal.returns
returns g c most =
    handed_many g.N.Machine c.args.hub c.args.count (spaces_for g.N.Machine g.N.Batches.spaces_of c.args.hub most c.args.self.now.part) c.args.self.now c.hand_many.new.self _ c.args.items.now.items c.hand_many.new.items.items (c.hand_many.ensures most)
