use Rattle.std.proofs.Common.{rules}
use Rattle.rsx_queued.proofs.output.Output.front.Goals as goal

pub front_of-requires : goal.front_of-requires
front_of-requires g c κs = search rules

pub returns-in-Waiting : goal.returns-in-Waiting
returns-in-Waiting g c = search rules

pub returns-in-Empty : goal.returns-in-Empty
returns-in-Empty g c = search rules

pub returns-in-Empty-2 : goal.returns-in-Empty-2
returns-in-Empty-2 g c = search rules
