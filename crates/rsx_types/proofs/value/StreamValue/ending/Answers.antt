use Rattle.std.proofs.Common.{rules}
use Rattle.rsx_types.proofs.value.StreamValue.ending.Goals as goal

pub returns : goal.returns
returns g c = search rules
