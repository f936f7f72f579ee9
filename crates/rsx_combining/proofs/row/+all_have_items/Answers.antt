use Rattle.std.proofs.Common.{rules, arith}
use Rattle.std.proofs.lemmas.Grind.{common_steps}
use Rattle.rsx_combining.proofs.row.+all_have_items.Goals as goal

pub all_have_items-requires : goal.all_have_items-requires
all_have_items-requires g t c κs within = search rules

pub returns-in-None : goal.returns-in-None
returns-in-None g t c = grind (arith, common_steps) steps 1000000
