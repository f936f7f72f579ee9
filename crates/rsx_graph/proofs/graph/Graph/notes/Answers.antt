use Rattle.rsx_graph.proofs.graph.Graph.notes.Goals as goal

pub returns-clause-notes : goal.returns-clause-notes
returns-clause-notes g c = rw (c.deref.ensures.value, c.deref-2.ensures.value, c.deref-3.ensures.value) at c.notes.ensures.notes

pub returns-clause-err : goal.returns-clause-err
returns-clause-err g c = rw (c.deref.ensures.value, c.deref-2.ensures.value, c.deref-3.ensures.value) at c.notes.ensures.err
