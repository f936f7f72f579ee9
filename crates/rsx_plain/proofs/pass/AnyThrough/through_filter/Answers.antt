use Rattle.std.proofs.Common.{rules}
use Rattle.rsx_plain.proofs.pass.AnyThrough.through_filter.Goals as goal

pub returns-in-Ok-true : goal.returns-in-Ok-true
returns-in-Ok-true g c = search rules
