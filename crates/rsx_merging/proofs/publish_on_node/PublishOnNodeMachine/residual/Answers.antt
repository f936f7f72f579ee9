use Rattle.std.proofs.Common.{rules}
use Rattle.rsx_merging.proofs.publish_on_node.PublishOnNodeMachine.residual.Goals as goal

pub first-requires : goal.first-requires
first-requires g c κs = search rules

pub items-requires : goal.items-requires
items-requires g c κs = search rules

pub ending-requires : goal.ending-requires
ending-requires g c κs = search rules

pub rest-requires : goal.rest-requires
rest-requires g c κs = search rules

pub branch-rest-requires : goal.branch-rest-requires
branch-rest-requires g c κs = search rules

pub from_residual-requires : goal.from_residual-requires
from_residual-requires g c κs = search rules

pub returns-in_err-rest-in-Some : goal.returns-in_err-rest-in-Some
returns-in_err-rest-in-Some g c = search rules

pub rest-requires-in-None : goal.rest-requires-in-None
rest-requires-in-None g c κs = search rules

pub branch-rest-requires-in-None : goal.branch-rest-requires-in-None
branch-rest-requires-in-None g c κs = search rules

pub from_residual-requires-in_err-rest-in-None : goal.from_residual-requires-in_err-rest-in-None
from_residual-requires-in_err-rest-in-None g c κs = search rules

pub returns-in_err-rest-in-None : goal.returns-in_err-rest-in-None
returns-in_err-rest-in-None g c = search rules

pub new-requires : goal.new-requires
new-requires g c κs = search rules

pub new-requires-in-None-rest : goal.new-requires-in-None-rest
new-requires-in-None-rest g c κs = search rules

pub returns-in-Some-rest : goal.returns-in-Some-rest
returns-in-Some-rest g c = search rules

pub returns-in-None-rest : goal.returns-in-None-rest
returns-in-None-rest g c = search rules
