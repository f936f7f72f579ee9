use Rattle.rsx_kinds.proofs.boxed.BoxedBatches.step_items.Goals as goal

pub returns-clause-yes : goal.returns-clause-yes
returns-clause-yes g c = rw (← c.self.view_is, ← c.deref_mut.ensures.value) c.step_items.ensures.yes
