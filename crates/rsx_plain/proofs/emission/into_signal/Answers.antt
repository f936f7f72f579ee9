use Rattle.std.proofs.Common.{rules}
use Rattle.rsx_plain.proofs.emission.into_signal.Goals as goal

pub returns-in-Some-default : goal.returns-in-Some-default
returns-in-Some-default g c = search rules

pub returns-in-None-Failed : goal.returns-in-None-Failed
returns-in-None-Failed g c = search rules

pub returns-in-None-default : goal.returns-in-None-default
returns-in-None-default g c = search rules
