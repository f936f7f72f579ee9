use Rattle.rsx_runtime.proofs.Signals.{ended_orderly}
use Rattle.rsx_runtime.proofs.emitter.Emitter.fail_over.Goals as goal

pub invariant_of-self : goal.invariant_of-self
invariant_of-self g c = record { «open» = λ e. cc; orderly = ended_orderly _ _ _ c.in-Ok.ensures.ok (c.args.self.now.«open» c.if-self.false) }
