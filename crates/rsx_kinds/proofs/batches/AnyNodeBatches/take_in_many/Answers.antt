use Rattle.rsx_kinds.proofs.TakenOff.{source_taken}
use Rattle.rsx_kinds.proofs.batches.AnyNodeBatches.take_in_many.Goals as goal

pub returns-in-Source : goal.returns-in-Source
returns-in-Source g c =
    rw c.in-Source.is (source_taken c.args.count _ c.args.items.now.items c.take_in_many.new.items.items c.in-Source.node c.take_in_many.new.self c.take_in_many.ensures)
