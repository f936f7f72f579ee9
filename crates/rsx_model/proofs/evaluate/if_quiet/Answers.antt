use Rattle.std.proofs.Common.{rules}
use Rattle.rsx_model.proofs.evaluate.if_quiet.Goals as goal

pub returns-in-Picks : goal.returns-in-Picks
returns-in-Picks g c = search rules
