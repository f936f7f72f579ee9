use Rattle.std.proofs.Common.{rules}
use Rattle.rsx_plain.proofs.buffer.OutSlotBufferReaction.complete_list.Goals as goal

pub returns-in-Err : goal.returns-in-Err
returns-in-Err g c = search rules

pub returns : goal.returns
returns g c = search rules
