use Rattle.std.proofs.Common.{rules}
use Rattle.rsx_values.proofs.latest.stops.Goals as goal

pub returns-then-left-le1 : goal.returns-then-left-le1
returns-then-left-le1 g c = search rules

pub get-requires : goal.get-requires
get-requires g c κs = search rules
