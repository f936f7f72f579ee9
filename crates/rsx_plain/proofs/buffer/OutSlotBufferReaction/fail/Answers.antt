use Rattle.std.proofs.Common.{rules}
use Rattle.rsx_plain.proofs.buffer.OutSlotBufferReaction.fail.Goals as goal

pub returns : goal.returns
returns g c = search rules
