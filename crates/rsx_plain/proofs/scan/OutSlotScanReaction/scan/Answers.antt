use Rattle.std.proofs.Common.{rules}
use Rattle.rsx_plain.proofs.scan.OutSlotScanReaction.scan.Goals as goal

pub returns-in-Err : goal.returns-in-Err
returns-in-Err g c = search rules

pub returns-in-Err-Memory : goal.returns-in-Err-Memory
returns-in-Err-Memory g c = search rules

pub returns : goal.returns
returns g c = search rules
