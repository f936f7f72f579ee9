use Rattle.std.proofs.Common.{rules}
use Rattle.rsx_merging.proofs.concat_node.ConcatNodeMachine.can_take.Goals as goal

pub returns-then-not-is_empty : goal.returns-then-not-is_empty
returns-then-not-is_empty g c = search rules

pub get-requires : goal.get-requires
get-requires g c κs = search rules
