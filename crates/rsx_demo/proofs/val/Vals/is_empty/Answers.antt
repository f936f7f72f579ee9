use Rattle.std.proofs.Common.{rules}
use Rattle.rsx_demo.proofs.val.Vals.is_empty.Goals as goal

pub returns : goal.returns
returns c = search rules
