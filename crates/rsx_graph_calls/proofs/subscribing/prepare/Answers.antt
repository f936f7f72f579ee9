use Rattle.rsx_graph_calls.proofs.subscribing.prepare.Goals as goal

pub returns-clause-missed : goal.returns-clause-missed
returns-clause-missed g c = rw c.deref.ensures.value at c.in_ok-missed.ensures
