use Rattle.std.proofs.Common.{rules}
use Rattle.rsx_queued.proofs.output.Output.put.Goals as goal

pub drop-self-requires : goal.drop-self-requires
drop-self-requires g c κs within = search rules

pub returns : goal.returns
returns g c = search rules
