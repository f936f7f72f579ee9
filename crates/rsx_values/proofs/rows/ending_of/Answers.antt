use Rattle.std.proofs.Common.{rules}
use Rattle.rsx_values.proofs.rows.ending_of.Goals as goal

pub overflow_cast-number : goal.overflow_cast-number
overflow_cast-number g c = search rules

pub get-requires : goal.get-requires
get-requires g c κs = search rules

pub returns-in-None : goal.returns-in-None
returns-in-None g c = search rules
