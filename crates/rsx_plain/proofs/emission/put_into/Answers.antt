use Rattle.std.proofs.Common.{rules}
use Rattle.rsx_plain.proofs.emission.put_into.Goals as goal

pub returns-in-Some-default : goal.returns-in-Some-default
returns-in-Some-default g c = search rules

pub returns-in-None-default : goal.returns-in-None-default
returns-in-None-default g c = search rules
