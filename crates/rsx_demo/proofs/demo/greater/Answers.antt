use Rattle.std.proofs.Common.{rules}
use Rattle.rsx_demo.proofs.demo.greater.Goals as goal

pub returns : goal.returns
returns c = search rules
