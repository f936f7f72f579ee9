use Rattle.std.proofs.Common.{rules}
use Rattle.rsx_plain.proofs.emission.from_signal.Goals as goal

pub returns-in-Next : goal.returns-in-Next
returns-in-Next g c = search rules

pub returns-in-Complete : goal.returns-in-Complete
returns-in-Complete g c = search rules

pub returns-in-Error : goal.returns-in-Error
returns-in-Error g c = search rules
