use Rattle.std.proofs.Common.{rules}
use Rattle.rsx_tree.proofs.node.Node.has_room.Goals as goal

pub returns-else-is_end : goal.returns-else-is_end
returns-else-is_end g c = search rules

pub returns-else-has_room_for : goal.returns-else-has_room_for
returns-else-has_room_for g c = search rules
