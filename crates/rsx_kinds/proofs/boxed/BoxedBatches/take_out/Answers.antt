use Rattle.rsx_kinds.proofs.boxed.BoxedBatches.take_out.Goals as goal

pub returns-clause-yes : goal.returns-clause-yes
returns-clause-yes g c = rw (← c.self.view_is, ← c.deref_mut.ensures.value) c.take_out.ensures.yes
