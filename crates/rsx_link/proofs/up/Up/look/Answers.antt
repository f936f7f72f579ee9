use Rattle.std.proofs.Common.{rules}
use Rattle.rsx_link.proofs.up.Up.look.Goals as goal

pub returns-clause-looked : goal.returns-clause-looked
returns-clause-looked g c = search rules
