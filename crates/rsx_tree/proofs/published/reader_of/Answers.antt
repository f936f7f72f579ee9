use Rattle.std.proofs.Common.{rules}
use Rattle.rsx_tree.proofs.published.reader_of.Goals as goal

pub returns-in-Some : goal.returns-in-Some
returns-in-Some g c = search rules
