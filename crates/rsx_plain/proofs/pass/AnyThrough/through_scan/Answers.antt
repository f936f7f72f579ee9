use Rattle.std.proofs.Common.{rules}
use Rattle.rsx_plain.proofs.pass.AnyThrough.through_scan.Goals as goal

pub returns-in-Ok-copy : goal.returns-in-Ok-copy
returns-in-Ok-copy g c = search rules
