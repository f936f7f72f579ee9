use Rattle.rsx_kinds.proofs.boxed.BoxedBatches.peek.Goals as goal

pub returns-clause-popped : goal.returns-clause-popped
returns-clause-popped g c = rw (← c.self.view_is, ← c.deref.ensures) c.peek.ensures.popped
