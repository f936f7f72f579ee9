use Rattle.std.proofs.Common.{rules}
use Rattle.rsx_types.proofs.note.Choices.as_slice.Goals as goal

pub returns : goal.returns
returns c = search rules
