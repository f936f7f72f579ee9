use Rattle.std.proofs.Common.{rules}
use Rattle.rsx_values.proofs.rows.VecStreamValueZip.zip.Goals as goal

pub returns-in_err-items-in-Some : goal.returns-in_err-items-in-Some
returns-in_err-items-in-Some g c = search rules

pub returns-in-None : goal.returns-in-None
returns-in-None g c = search rules

pub returns-in_ok-items-in-Some : goal.returns-in_ok-items-in-Some
returns-in_ok-items-in-Some g c = search rules
