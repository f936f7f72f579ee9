use Rattle.std.proofs.Common.{rules}
use Rattle.rsx_types.proofs.value.StreamValue.new.Goals as goal

pub returns-clause-ending : goal.returns-clause-ending
returns-clause-ending g c = search rules
