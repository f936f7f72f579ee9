use Rattle.std.proofs.Common.{rules}
use Rattle.rsx_merging.proofs.publish_on_node.PublishOnNodeMachine.pop_item.Goals as goal

pub is_gone-requires : goal.is_gone-requires
is_gone-requires g c κs = search rules

pub returns-then-is_gone-clause-some : goal.returns-then-is_gone-clause-some
returns-then-is_gone-clause-some g c = search rules

pub returns-then-is_gone-clause-none : goal.returns-then-is_gone-clause-none
returns-then-is_gone-clause-none g c = search rules

pub returns-then-is_gone-clause-offered : goal.returns-then-is_gone-clause-offered
returns-then-is_gone-clause-offered g c = search rules

pub lift-requires : goal.lift-requires
lift-requires g c κs = search rules

pub returns-clause-some : goal.returns-clause-some
returns-clause-some g c = search rules

pub returns-clause-none : goal.returns-clause-none
returns-clause-none g c = search rules

pub returns-clause-offered : goal.returns-clause-offered
returns-clause-offered g c = search rules
