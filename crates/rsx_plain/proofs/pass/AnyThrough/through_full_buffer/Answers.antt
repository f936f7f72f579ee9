use Rattle.std.proofs.Common.{rules}
use Rattle.rsx_plain.proofs.pass.AnyThrough.through_full_buffer.Goals as goal

pub returns-in-Ok-clause-ok : goal.returns-in-Ok-clause-ok
returns-in-Ok-clause-ok g c = search rules
