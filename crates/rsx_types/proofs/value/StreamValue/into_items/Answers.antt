use Rattle.std.proofs.Common.{rules}
use Rattle.rsx_types.proofs.value.StreamValue.into_items.Goals as goal

pub returns : goal.returns
returns g c = search rules
