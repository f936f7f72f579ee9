use Rattle.std.proofs.Common.{rules}
use Rattle.rsx_demo.proofs.val.+copy.Goals as goal

pub copy_val-returns-in-Int : goal.copy_val-returns-in-Int
copy_val-returns-in-Int t c = search rules
