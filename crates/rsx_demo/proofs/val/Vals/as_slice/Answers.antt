use Rattle.std.proofs.Common.{rules}
use Rattle.rsx_demo.proofs.val.Vals.as_slice.Goals as goal

pub returns : goal.returns
returns c = search rules
