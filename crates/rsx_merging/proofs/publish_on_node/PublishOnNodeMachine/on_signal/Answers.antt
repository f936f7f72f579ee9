use Rattle.std.proofs.Common.{rules, arith}
use Rattle.std.proofs.lemmas.Grind.{common_steps}
use Rattle.rsx_merging.proofs.publish_on_node.PublishOnNodeMachine.on_signal.Goals as goal

pub front_of-requires : goal.front_of-requires
front_of-requires g c κs = search rules

pub can_take-requires : goal.can_take-requires
can_take-requires g c κs = search rules

pub returns-then-not-can_take-clause-ok : goal.returns-then-not-can_take-clause-ok
returns-then-not-can_take-clause-ok g c = search rules

pub returns-then-not-can_take-clause-enabled : goal.returns-then-not-can_take-clause-enabled
returns-then-not-can_take-clause-enabled g c = search rules

pub returns-then-not-can_take-clause-counts : goal.returns-then-not-can_take-clause-counts
returns-then-not-can_take-clause-counts g c = search rules

pub returns-then-not-can_take-clause-err : goal.returns-then-not-can_take-clause-err
returns-then-not-can_take-clause-err g c = search rules

pub returns-then-not-can_take-clause-memory : goal.returns-then-not-can_take-clause-memory
returns-then-not-can_take-clause-memory g c = search rules

pub returns-then-not-can_take-clause-same : goal.returns-then-not-can_take-clause-same
returns-then-not-can_take-clause-same g c = search rules

pub put-requires : goal.put-requires
put-requires g c = search rules

pub returns-clause-ok : goal.returns-clause-ok
returns-clause-ok g c = search rules

pub returns-clause-enabled : goal.returns-clause-enabled
returns-clause-enabled g c = search rules

pub returns-clause-counts : goal.returns-clause-counts
returns-clause-counts g c = grind (arith, common_steps) steps 1000000

pub returns-clause-err : goal.returns-clause-err
returns-clause-err g c = search rules

pub returns-clause-memory : goal.returns-clause-memory
returns-clause-memory g c = search rules

pub returns-clause-same : goal.returns-clause-same
returns-clause-same g c = search rules
