use Rattle.std.proofs.Common.{rules}
use Rattle.rsx_values.proofs.latest.VecOptionLatest.combine.Goals as goal

pub returns-in_err-taken : goal.returns-in_err-taken
returns-in_err-taken g c = search rules

pub returns-in_ok-walk-in-Some : goal.returns-in_ok-walk-in-Some
returns-in_ok-walk-in-Some g c = search rules

pub returns-in_err-walk-in-Some : goal.returns-in_err-walk-in-Some
returns-in_err-walk-in-Some g c = search rules

pub returns-in-None : goal.returns-in-None
returns-in-None g c = search rules
