use Rattle.std.proofs.Common.{arith, rules}
use Rattle.std.proofs.lemmas.Grind.{common_steps}
use Rattle.rsx_plain.proofs.buffer.OutSlotBufferReaction.gather.Goals as goal

pub returns-in-Err : goal.returns-in-Err
returns-in-Err g c = search rules

pub returns-then-items-size : goal.returns-then-items-size
returns-then-items-size g c = grind (arith, common_steps)
