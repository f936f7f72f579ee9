use Rattle.rsx_kinds.proofs.Made.{joined_in_front}
use Rattle.rsx_kinds.proofs.trees.in_front.Goals as goal

pub returns-in-Ok : goal.returns-in-Ok
returns-in-Ok g c = joined_in_front c.args.below c.in-Ok.tree c.args.beside c.join.result c.in-Ok.is c.join.ensures
