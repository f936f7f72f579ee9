use Rattle.std.proofs.Common.{rules, arith}
use Rattle.std.proofs.lemmas.Grind.{common_steps}
use Rattle.rsx_collections.proofs.signals.PendingSignals.put_front.Goals as goal

pub push_reserved-requires : goal.push_reserved-requires
push_reserved-requires g c = grind (arith, common_steps) steps 1000000

pub returns-clause-left : goal.returns-clause-left
returns-clause-left g c = grind (arith, common_steps) steps 1000000

pub returns-clause-room : goal.returns-clause-room
returns-clause-room g c = search rules
