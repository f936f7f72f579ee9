use Rattle.std.proofs.Common.{rules, arith}
use Rattle.std.proofs.lemmas.Grind.{common_steps}
use Rattle.rsx_collections.proofs.signals.PendingSignals.pop_item.Goals as goal

pub pop-requires : goal.pop-requires
pop-requires g c κs = search rules

pub push_reserved-requires : goal.push_reserved-requires
push_reserved-requires g c = search rules

pub returns-in-Some-Next-clause-left : goal.returns-in-Some-Next-clause-left
returns-in-Some-Next-clause-left g c = grind (arith, common_steps) steps 1000000

pub returns-in-Some-Next-clause-room : goal.returns-in-Some-Next-clause-room
returns-in-Some-Next-clause-room g c = search rules

pub returns-in-Some-Next-clause-space : goal.returns-in-Some-Next-clause-space
returns-in-Some-Next-clause-space g c = grind (arith, common_steps) steps 1000000

pub returns-in-Some-Next-clause-none : goal.returns-in-Some-Next-clause-none
returns-in-Some-Next-clause-none g c = search rules

pub returns-in-Some-Next-clause-other : goal.returns-in-Some-Next-clause-other
returns-in-Some-Next-clause-other g c = search rules

pub returns-in-Some : goal.returns-in-Some
returns-in-Some g c = grind (arith, common_steps) steps 1000000

pub returns-in-None-clause-left : goal.returns-in-None-clause-left
returns-in-None-clause-left g c = search rules

pub returns-in-None-clause-room : goal.returns-in-None-clause-room
returns-in-None-clause-room g c = search rules

pub returns-in-None-clause-space : goal.returns-in-None-clause-space
returns-in-None-clause-space g c = search rules

pub returns-in-None-clause-none : goal.returns-in-None-clause-none
returns-in-None-clause-none g c = search rules

pub returns-in-None-clause-other : goal.returns-in-None-clause-other
returns-in-None-clause-other g c = search rules
