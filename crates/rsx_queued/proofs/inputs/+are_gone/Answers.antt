use Rattle.std.proofs.Common.{rules, arith}
use Rattle.std.proofs.lemmas.Grind.{common_steps}
use Rattle.rsx_queued.proofs.inputs.+are_gone.Goals as goal

pub are_gone-requires : goal.are_gone-requires
are_gone-requires g t c κs within = search rules

pub returns-in-None : goal.returns-in-None
returns-in-None g t c = grind (arith, common_steps)

pub returns-then-is_gone : goal.returns-then-is_gone
returns-then-is_gone g t c = search rules

pub returns-else-is_gone : goal.returns-else-is_gone
returns-else-is_gone g t c = search rules
