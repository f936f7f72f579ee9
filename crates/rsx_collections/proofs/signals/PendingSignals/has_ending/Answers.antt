use Rattle.std.proofs.Common.{rules, arith}
use Rattle.std.proofs.lemmas.Grind.{common_steps}
use Rattle.rsx_collections.proofs.signals.PendingSignals.has_ending.Goals as goal

pub len-at-requires : goal.len-at-requires
len-at-requires g c κs = search rules

pub loop-at-init : goal.loop-at-init
loop-at-init g c = grind (arith, common_steps) steps 1000000

pub overflow_step-at : goal.overflow_step-at
overflow_step-at g c = search rules

pub index-requires : goal.index-requires
index-requires g c = grind (arith, common_steps) steps 1000000

pub loop-at-smaller : goal.loop-at-smaller
loop-at-smaller g c = search rules

pub loop-at-preserved : goal.loop-at-preserved
loop-at-preserved g c = grind (arith, common_steps) steps 1000000

pub returns-in-Complete : goal.returns-in-Complete
returns-in-Complete g c = grind (arith, common_steps) steps 1000000

pub returns-in-Complete-2 : goal.returns-in-Complete-2
returns-in-Complete-2 g c = grind (arith, common_steps) steps 1000000

pub returns : goal.returns
returns g c = search rules
