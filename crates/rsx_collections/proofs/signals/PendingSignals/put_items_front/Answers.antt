use Rattle.std.proofs.Common.{rules, arith}
use Rattle.std.proofs.lemmas.Grind.{common_steps}
use Rattle.rsx_collections.proofs.signals.PendingSignals.put_items_front.Goals as goal

pub loop-item-init : goal.loop-item-init
loop-item-init g c = search rules

pub pop-requires : goal.pop-requires
pop-requires g c κs = search rules

pub put_front-requires : goal.put_front-requires
put_front-requires g c = search rules

pub loop-item-smaller : goal.loop-item-smaller
loop-item-smaller g c = search rules

pub loop-item-preserved : goal.loop-item-preserved
loop-item-preserved g c = grind (arith, common_steps) steps 1000000

pub drop-items-requires : goal.drop-items-requires
drop-items-requires g c κs = search rules

pub returns-clause-left : goal.returns-clause-left
returns-clause-left g c = search rules

pub returns-clause-room : goal.returns-clause-room
returns-clause-room g c = search rules
