use Rattle.std.proofs.Common.{rules, arith}
use Rattle.std.proofs.lemmas.Grind.{common_steps}
use Rattle.rsx_values.proofs.latest.set_latest.Goals as goal

pub index_mut-requires : goal.index_mut-requires
index_mut-requires g c = search rules

pub returns-then-at-len : goal.returns-then-at-len
returns-then-at-len g c = search rules

pub returns-else-at-len : goal.returns-else-at-len
returns-else-at-len g c = grind (arith, common_steps)
