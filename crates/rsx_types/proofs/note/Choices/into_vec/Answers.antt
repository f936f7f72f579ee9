use Rattle.std.proofs.Common.{rules}
use Rattle.rsx_types.proofs.note.Choices.into_vec.Goals as goal

pub returns : goal.returns
returns c = search rules
