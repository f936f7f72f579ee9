use Rattle.std.proofs.Common.{rules, arith}
use Rattle.std.proofs.lemmas.Grind.{common_steps}
use Rattle.rsx_combining.proofs.latest_items.+gives_row.Goals as goal

pub returns-then-input-eq0 : goal.returns-then-input-eq0
returns-then-input-eq0 g t c = search rules

pub overflow_sub-input : goal.overflow_sub-input
overflow_sub-input g t c = search rules

pub gives_row-requires : goal.gives_row-requires
gives_row-requires g t c κs within = search rules

pub returns-in-None : goal.returns-in-None
returns-in-None g t c = grind (arith, common_steps) steps 1000000

pub returns-then-is_some : goal.returns-then-is_some
returns-then-is_some g t c = search rules

pub returns-else-is_some : goal.returns-else-is_some
returns-else-is_some g t c = search rules
