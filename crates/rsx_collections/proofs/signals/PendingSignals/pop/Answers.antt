use Rattle.std.proofs.Common.{rules, arith}
use Rattle.std.proofs.lemmas.Grind.{common_steps}
use Rattle.rsx_collections.proofs.signals.PendingSignals.pop.Goals as goal

pub pop-requires : goal.pop-requires
pop-requires g c κs = search rules

pub returns-clause-signal : goal.returns-clause-signal
returns-clause-signal g c = grind (arith, common_steps) steps 1000000

pub returns-clause-left : goal.returns-clause-left
returns-clause-left g c = grind (arith, common_steps) steps 1000000

pub returns-clause-room : goal.returns-clause-room
returns-clause-room g c = search rules

pub returns-clause-space : goal.returns-clause-space
returns-clause-space g c = grind (arith, common_steps) steps 1000000
