use Rattle.std.proofs.Common.{rules, arith}
use Rattle.std.proofs.lemmas.Grind.{common_steps}
use Rattle.rsx_collections.proofs.signals.PendingSignals.front.Goals as goal

pub deref-requires : goal.deref-requires
deref-requires g c κs = search rules

pub last-requires : goal.last-requires
last-requires g c κs = search rules

pub returns : goal.returns
returns g c = grind (arith, common_steps) steps 1000000
