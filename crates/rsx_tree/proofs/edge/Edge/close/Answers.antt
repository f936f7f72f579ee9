use Rattle.std.proofs.Common.{rules}
use Rattle.rsx_tree.proofs.edge.Edge.close.Goals as goal

pub returns-then-is_live-clause-view : goal.returns-then-is_live-clause-view
returns-then-is_live-clause-view c = search rules

pub returns-then-is_live-clause-whole : goal.returns-then-is_live-clause-whole
returns-then-is_live-clause-whole c = search rules
