use Rattle.rsx_kinds.proofs.TakenOff.{hub_taken}
use Rattle.rsx_kinds.proofs.batches.SourceNodeBatches.take_in_many.Goals as goal

pub returns-in-Hub : goal.returns-in-Hub
returns-in-Hub g c =
    rw c.in-Hub.is (hub_taken c.args.count _ c.args.items.now.items c.take_in_many.new.items.items c.in-Hub.node c.take_in_many.new.self c.take_in_many.ensures)
