use Rattle.rsx_queued.specs.declared.sender.Sender.TheVariants.{Direct}
use Rattle.rsx_rooted.specs.Taking.{IsItemTaken}
use Rattle.rsx_rooted.proofs.Senders.{sender_machine, taken_direct}
use Rattle.rsx_rooted.proofs.TakenOff.{taken_lift}
use Rattle.rsx_rooted.proofs.sender.SenderBatches.take_in_many.Goals as goal

pub returns-in-Direct : goal.returns-in-Direct
returns-in-Direct g c =
    rw c.in-Direct.is (taken_lift (IsItemTaken g.M.Machine) (IsItemTaken (sender_machine g.M.Machine)) Direct c.in-Direct.node c.take_in_many.new.self c.args.count (g.M.Batches.spaces_of c.in-Direct.node) c.args.items.now.items c.take_in_many.new.items.items (λ a b x. taken_direct g.M.Machine a x b) c.take_in_many.ensures)
