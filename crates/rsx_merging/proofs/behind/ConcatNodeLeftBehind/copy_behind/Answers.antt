use Rattle.std.proofs.Common.{rules, arith}
use Rattle.std.proofs.lemmas.Grind.{common_steps}
use Rattle.rsx_merging.proofs.behind.ConcatNodeLeftBehind.copy_behind.Goals as goal

pub loop-item-init : goal.loop-item-init
loop-item-init g c = search rules

pub offset_bounds-items-item-index : goal.offset_bounds-items-item-index
offset_bounds-items-item-index g c = search rules

pub returns-in_err-copy : goal.returns-in_err-copy
returns-in_err-copy g c = search rules

pub returns-in_err-push : goal.returns-in_err-push
returns-in_err-push g c = search rules

pub loop-item-preserved : goal.loop-item-preserved
loop-item-preserved g c = grind (arith, common_steps)

pub returns : goal.returns
returns g c = grind (arith, common_steps)
