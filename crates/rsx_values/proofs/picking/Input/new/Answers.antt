use Rattle.std.proofs.Common.{rules, arith}
use Rattle.std.proofs.lemmas.Grind.{common_steps}
use Rattle.rsx_values.proofs.picking.Input.new.Goals as goal

pub loop-item-init : goal.loop-item-init
loop-item-init g c = search rules

pub loop-item-preserved : goal.loop-item-preserved
loop-item-preserved g c = grind (arith, common_steps)

pub returns-in_err-push_back : goal.returns-in_err-push_back
returns-in_err-push_back g c = search rules

pub returns-in_err-push_back-in-Done : goal.returns-in_err-push_back-in-Done
returns-in_err-push_back-in-Done g c = search rules

pub returns-in_err-push_back-in-Failed : goal.returns-in_err-push_back-in-Failed
returns-in_err-push_back-in-Failed g c = search rules

pub returns : goal.returns
returns g c = grind (arith, common_steps)
