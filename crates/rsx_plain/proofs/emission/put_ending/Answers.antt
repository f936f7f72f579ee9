use Rattle.std.proofs.Common.{rules}
use Rattle.rsx_plain.proofs.emission.put_ending.Goals as goal

pub returns-in-Open : goal.returns-in-Open
returns-in-Open g c = search rules

pub returns-in-Done : goal.returns-in-Done
returns-in-Done g c = search rules

pub returns-in-Failed : goal.returns-in-Failed
returns-in-Failed g c = search rules
