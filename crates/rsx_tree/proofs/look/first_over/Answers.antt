use Rattle.std.proofs.Common.{rules}
use Rattle.rsx_tree.proofs.look.first_over.Goals as goal

pub returns-then-can_ask_sender-clause-some : goal.returns-then-can_ask_sender-clause-some
returns-then-can_ask_sender-clause-some g c = search rules
