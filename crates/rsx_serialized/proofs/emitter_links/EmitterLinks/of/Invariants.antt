use Rattle.rsx_serialized.specs.Starting.{AreEmitterLinks}
use Rattle.rsx_serialized.proofs.emitter_links.EmitterLinks.of.Given as goal

abbrev pub invariant-loop-number : goal.invariant-loop-number
invariant-loop-number g l = AreEmitterLinks l.hubs l.feeds l.number l.opened
