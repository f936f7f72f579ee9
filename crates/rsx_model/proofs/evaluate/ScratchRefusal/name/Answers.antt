use Rattle.std.proofs.Common.{rules}
use Rattle.rsx_model.proofs.evaluate.ScratchRefusal.name.Goals as goal

pub returns-in-BadNotes : goal.returns-in-BadNotes
returns-in-BadNotes c = search rules
