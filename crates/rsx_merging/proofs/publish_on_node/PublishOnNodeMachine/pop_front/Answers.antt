use Rattle.std.proofs.Common.{rules}
use Rattle.rsx_merging.proofs.publish_on_node.PublishOnNodeMachine.pop_front.Goals as goal

pub is_gone-requires : goal.is_gone-requires
is_gone-requires g c κs = search rules

pub returns-then-is_gone-clause-ok : goal.returns-then-is_gone-clause-ok
returns-then-is_gone-clause-ok g c = search rules

pub returns-then-is_gone-clause-counts : goal.returns-then-is_gone-clause-counts
returns-then-is_gone-clause-counts g c = search rules

pub returns-then-is_gone-clause-err : goal.returns-then-is_gone-clause-err
returns-then-is_gone-clause-err g c = search rules

pub returns-then-is_gone-clause-memory : goal.returns-then-is_gone-clause-memory
returns-then-is_gone-clause-memory g c = search rules

pub lift-requires : goal.lift-requires
lift-requires g c κs = search rules

pub take-requires : goal.take-requires
take-requires g c κs = search rules

pub returns-in-Some-clause-ok : goal.returns-in-Some-clause-ok
returns-in-Some-clause-ok g c = search rules

pub returns-in-Some-clause-counts : goal.returns-in-Some-clause-counts
returns-in-Some-clause-counts g c = search rules

pub returns-in-Some-clause-err : goal.returns-in-Some-clause-err
returns-in-Some-clause-err g c = search rules

pub returns-in-Some-clause-memory : goal.returns-in-Some-clause-memory
returns-in-Some-clause-memory g c = search rules

pub returns-in-None-clause-ok : goal.returns-in-None-clause-ok
returns-in-None-clause-ok g c = search rules

pub returns-in-None-clause-counts : goal.returns-in-None-clause-counts
returns-in-None-clause-counts g c = search rules

pub returns-in-None-clause-err : goal.returns-in-None-clause-err
returns-in-None-clause-err g c = search rules

pub returns-in-None-clause-memory : goal.returns-in-None-clause-memory
returns-in-None-clause-memory g c = search rules
