use Rattle.rsx_plain.proofs.state.PlainStateAnswering.to_item.Goals as goal

pub returns-in-Take-clause-answer : goal.returns-in-Take-clause-answer
returns-in-Take-clause-answer g c = rw c.in-Take.is (c.prepare.ensures (g.O.Ops.meaning c.args.ops.now))
