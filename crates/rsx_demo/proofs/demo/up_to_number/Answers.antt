use Rattle.std.proofs.Common.{rules}
use Rattle.rsx_demo.proofs.demo.up_to_number.Goals as goal

pub returns-then-n : goal.returns-then-n
returns-then-n c = search rules
