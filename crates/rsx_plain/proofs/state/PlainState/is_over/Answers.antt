use Rattle.std.proofs.Common.{rules}
use Rattle.rsx_plain.proofs.state.PlainState.is_over.Goals as goal

pub returns-in-Take : goal.returns-in-Take
returns-in-Take g c = search rules
