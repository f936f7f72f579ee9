use Rattle.std.proofs.Common.{rules}
use Rattle.rsx_combining.proofs.zip.ZipNode.ending_at.Goals as goal

pub overflow_cast-t-4 : goal.overflow_cast-t-4
overflow_cast-t-4 g c = search rules

pub returns-then-input : goal.returns-then-input
returns-then-input g c = search rules

pub get-requires : goal.get-requires
get-requires g c κs = search rules
