use Rattle.std.proofs.Common.{rules, arith}
use Rattle.std.proofs.lemmas.Grind.{common_steps}
use Rattle.rsx_collections.proofs.signals.PendingSignalsInFront.in_front.Goals as goal

pub new-items-requires : goal.new-items-requires
new-items-requires g c κs = search rules

pub len-at-requires : goal.len-at-requires
len-at-requires g c κs = search rules

pub loop-at-init : goal.loop-at-init
loop-at-init g c = grind (arith, common_steps) steps 1000000

pub overflow_step-at : goal.overflow_step-at
overflow_step-at g c = search rules

pub index-requires : goal.index-requires
index-requires g c = grind (arith, common_steps) steps 1000000

pub copy-requires : goal.copy-requires
copy-requires g c κs = search rules

pub branch-copy-requires : goal.branch-copy-requires
branch-copy-requires g c κs = search rules

pub from_residual-requires : goal.from_residual-requires
from_residual-requires g c κs = search rules

pub drop-items-requires : goal.drop-items-requires
drop-items-requires g c κs = search rules

pub drop-behind-inside-requires : goal.drop-behind-inside-requires
drop-behind-inside-requires g c κs = search rules

pub returns-in_err-copy-in-Next : goal.returns-in_err-copy-in-Next
returns-in_err-copy-in-Next g c = search rules

pub push-requires : goal.push-requires
push-requires g c κs = search rules

pub branch-push-requires : goal.branch-push-requires
branch-push-requires g c κs = search rules

pub loop-at-smaller : goal.loop-at-smaller
loop-at-smaller g c = search rules

pub loop-at-preserved : goal.loop-at-preserved
loop-at-preserved g c = grind (arith, common_steps) steps 1000000

pub from_residual-requires-in_err-push-in-Next : goal.from_residual-requires-in_err-push-in-Next
from_residual-requires-in_err-push-in-Next g c κs = search rules

pub drop-items-requires-in_err-push-in-Next : goal.drop-items-requires-in_err-push-in-Next
drop-items-requires-in_err-push-in-Next g c κs = search rules

pub drop-behind-inside-requires-in_err-push-in-Next :
    goal.drop-behind-inside-requires-in_err-push-in-Next
drop-behind-inside-requires-in_err-push-in-Next g c κs = search rules

pub returns-in_err-push-in-Next : goal.returns-in_err-push-in-Next
returns-in_err-push-in-Next g c = search rules

pub new-requires : goal.new-requires
new-requires g c κs = search rules

pub drop-behind-inside-requires-in-Complete : goal.drop-behind-inside-requires-in-Complete
drop-behind-inside-requires-in-Complete g c κs = search rules

pub returns-in-Complete : goal.returns-in-Complete
returns-in-Complete g c = grind (arith, common_steps) steps 1000000

pub new-requires-in-Error : goal.new-requires-in-Error
new-requires-in-Error g c κs = search rules

pub drop-behind-inside-requires-in-Error : goal.drop-behind-inside-requires-in-Error
drop-behind-inside-requires-in-Error g c κs = search rules

pub returns-in-Error : goal.returns-in-Error
returns-in-Error g c = grind (arith, common_steps) steps 1000000

pub ending-ending-requires : goal.ending-ending-requires
ending-ending-requires g c κs = search rules

pub into_items-item-items-requires : goal.into_items-item-items-requires
into_items-item-items-requires g c κs = search rules

pub into_iter-item-iterator-requires : goal.into_iter-item-iterator-requires
into_iter-item-iterator-requires g c κs = search rules

pub loop-item-init : goal.loop-item-init
loop-item-init g c = search rules

pub next-requires : goal.next-requires
next-requires g c = search rules

pub push-requires-in-loop-item : goal.push-requires-in-loop-item
push-requires-in-loop-item g c κs = search rules

pub branch-push-requires-in-loop-item : goal.branch-push-requires-in-loop-item
branch-push-requires-in-loop-item g c κs = search rules

pub loop-item-smaller : goal.loop-item-smaller
loop-item-smaller g c = search rules

pub loop-item-preserved : goal.loop-item-preserved
loop-item-preserved g c = grind (arith, common_steps) steps 1000000

pub from_residual-requires-in_err-push : goal.from_residual-requires-in_err-push
from_residual-requires-in_err-push g c κs = search rules

pub drop-item-iterator-requires : goal.drop-item-iterator-requires
drop-item-iterator-requires g c κs = search rules

pub drop-items-requires-in_err-push : goal.drop-items-requires-in_err-push
drop-items-requires-in_err-push g c κs = search rules

pub returns-in_err-push : goal.returns-in_err-push
returns-in_err-push g c = search rules

pub drop-item-iterator-requires-2 : goal.drop-item-iterator-requires-2
drop-item-iterator-requires-2 g c κs = search rules

pub new-requires-2 : goal.new-requires-2
new-requires-2 g c κs = search rules
