use Rattle.rsx_processor.proofs.TakenOff.{left_taken, right_taken}
use Rattle.rsx_processor.proofs.batches.EitherNodeBatches.take_in_many.Goals as goal

pub returns-in-Left : goal.returns-in-Left
returns-in-Left g c =
    rw c.in-Left.is (left_taken g.A.Machine g.B.Machine c.args.count _ c.args.items.now.items c.take_in_many.new.items.items c.in-Left.node c.take_in_many.new.self c.take_in_many.ensures)

pub returns-in-Right : goal.returns-in-Right
returns-in-Right g c =
    rw c.in-Right.is (right_taken g.A.Machine g.B.Machine c.args.count _ c.args.items.now.items c.take_in_many-in-Right.new.items.items c.in-Right.node c.take_in_many-in-Right.new.self c.take_in_many-in-Right.ensures)
