use Rattle.rsx_runtime.proofs.Signals.{emitted_orderly, emitted_unended, sent_or_not}
use Rattle.rsx_runtime.proofs.emitter.Emitter.emit_over.Goals as goal

pub invariant_of-self : goal.invariant_of-self
invariant_of-self g c =
    let unended = c.args.self.now.«open» c.if-self.false in
    let either = sent_or_not c.send.result _ _ _ _ _ c.send.ensures.ok c.send.ensures.full in
    record { «open» = λ _. emitted_unended _ _ _ either unended; orderly = emitted_orderly _ _ _ either unended c.args.self.now.orderly }
