use Rattle.rsx_plain.proofs.Prepares.{gathers_by}
use Rattle.rsx_plain.proofs.buffer.ArrivalBufferAnswer.answer_buffer.Goals as goal

pub returns-in-Ok-clause-answer : goal.returns-in-Ok-clause-answer
returns-in-Ok-clause-answer g c = gathers_by (g.O.Ops.meaning c.args.ops.now) c.args.size c.args.gathered.now c.args.self.item c.args.self.ending _ _ c.in_default.ensures.ok c.in-Ok.ensures
