use Rattle.rsx_kinds.proofs.boxed.BoxedBatches.try_pass.Goals as goal

pub returns-clause-passed : goal.returns-clause-passed
returns-clause-passed g c = rw (← c.self.view_is, ← c.deref.ensures) c.try_pass.ensures.passed
