use Rattle.std.proofs.Common.{arith}
use Rattle.std.proofs.lemmas.Grind.{common_steps}
use Rattle.rsx_values.proofs.Records.{joining}
use Rattle.rsx_values.proofs.record.Record.joins_last.Goals as goal

pub returns-then-last-input : goal.returns-then-last-input
returns-then-last-input c = grind (arith, joining)

pub returns-else-last-input : goal.returns-else-last-input
returns-else-last-input c = grind (arith, joining)

pub returns-in-None : goal.returns-in-None
returns-in-None c = grind (arith, common_steps)
