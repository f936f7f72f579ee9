use Rattle.std.proofs.Common.{rules, arith}
use Rattle.std.proofs.lemmas.Grind.{common_steps}
use Rattle.rsx_combining.proofs.latest_items.+all_there.Goals as goal

pub all_there-requires : goal.all_there-requires
all_there-requires g t c κs within = search rules

pub returns-in-None : goal.returns-in-None
returns-in-None g t c = grind (arith, common_steps) steps 1000000

pub returns-then-is_some : goal.returns-then-is_some
returns-then-is_some g t c = search rules

pub returns-else-is_some : goal.returns-else-is_some
returns-else-is_some g t c = search rules
