use Rattle.std.proofs.Common.{rules}
use Rattle.rsx_plain.proofs.chain.StageFirstEmission.first_emission.Goals as goal

pub returns-in_err-copy-in-Scan-clause-fresh : goal.returns-in_err-copy-in-Scan-clause-fresh
returns-in_err-copy-in-Scan-clause-fresh g c = search rules

pub returns-in_err-copy-in-Scan-clause-over : goal.returns-in_err-copy-in-Scan-clause-over
returns-in_err-copy-in-Scan-clause-over g c = search rules

pub returns-clause-fresh : goal.returns-clause-fresh
returns-clause-fresh g c = search rules

pub returns-clause-over : goal.returns-clause-over
returns-clause-over g c = search rules
