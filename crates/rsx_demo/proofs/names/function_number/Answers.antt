use Rattle.std.proofs.Common.{rules}
use Rattle.rsx_demo.proofs.names.function_number.Goals as goal

pub returns-in-Fold : goal.returns-in-Fold
returns-in-Fold c = search rules
