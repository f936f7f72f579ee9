use Rattle.std.proofs.Common.{rules}
use Rattle.rsx_types.proofs.note.Choices.new.Goals as goal

pub returns : goal.returns
returns c = search rules
