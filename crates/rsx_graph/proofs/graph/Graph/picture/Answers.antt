use Rattle.rsx_graph.proofs.graph.Graph.picture.Goals as goal

pub returns-clause-looks : goal.returns-clause-looks
returns-clause-looks g c = rw c.deref.ensures.value at c.picture.ensures.looks

pub returns-clause-err : goal.returns-clause-err
returns-clause-err g c = rw c.deref.ensures.value at c.picture.ensures.err
