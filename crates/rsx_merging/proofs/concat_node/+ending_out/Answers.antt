use Rattle.std.proofs.Common.{rules, arith}
use Rattle.std.proofs.lemmas.Grind.{common_steps}
use Rattle.rsx_merging.proofs.concat_node.+ending_out.Goals as goal

pub ending_out-requires : goal.ending_out-requires
ending_out-requires g t c κs within = search rules

pub returns-in-Some-Open-default : goal.returns-in-Some-Open-default
returns-in-Some-Open-default g t c = search rules

pub returns-in-Some-Done-default : goal.returns-in-Some-Done-default
returns-in-Some-Done-default g t c = search rules

pub returns-in-Some-Failed-default : goal.returns-in-Some-Failed-default
returns-in-Some-Failed-default g t c = search rules

pub returns-in-None : goal.returns-in-None
returns-in-None g t c = grind (arith, common_steps)
