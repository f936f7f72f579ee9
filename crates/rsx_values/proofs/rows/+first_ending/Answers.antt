use Rattle.std.proofs.Common.{rules, arith}
use Rattle.std.proofs.lemmas.Grind.{common_steps}
use Rattle.rsx_values.proofs.rows.+first_ending.Goals as goal

pub returns-then-ends_after : goal.returns-then-ends_after
returns-then-ends_after g t c = search rules

pub first_ending-requires : goal.first_ending-requires
first_ending-requires g t c κs within = search rules

pub returns-in-None : goal.returns-in-None
returns-in-None g t c = grind (arith, common_steps)

pub returns-else-ends_after : goal.returns-else-ends_after
returns-else-ends_after g t c = search rules
