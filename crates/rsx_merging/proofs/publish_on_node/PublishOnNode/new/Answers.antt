use Rattle.std.proofs.Common.{rules}
use Rattle.rsx_merging.proofs.publish_on_node.PublishOnNode.new.Goals as goal

pub new-requires-clause-positive : goal.new-requires-clause-positive
new-requires-clause-positive g c = search rules

pub new-requires-clause-within : goal.new-requires-clause-within
new-requires-clause-within g c = search rules

pub returns-in_err-input-clause-fresh : goal.returns-in_err-input-clause-fresh
returns-in_err-input-clause-fresh g c = search rules

pub returns-in_err-input-clause-counted : goal.returns-in_err-input-clause-counted
returns-in_err-input-clause-counted g c = search rules

pub returns-in_err-input-clause-input : goal.returns-in_err-input-clause-input
returns-in_err-input-clause-input g c = search rules

pub returns-clause-fresh : goal.returns-clause-fresh
returns-clause-fresh g c = search rules

pub returns-clause-counted : goal.returns-clause-counted
returns-clause-counted g c = search rules

pub returns-clause-input : goal.returns-clause-input
returns-clause-input g c = search rules
