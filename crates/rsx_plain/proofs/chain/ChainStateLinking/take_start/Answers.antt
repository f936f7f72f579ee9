use Rattle.std.proofs.Common.{rules}
use Rattle.rsx_plain.proofs.chain.ChainStateLinking.take_start.Goals as goal

pub returns-in_err-seed-clause-fresh : goal.returns-in_err-seed-clause-fresh
returns-in_err-seed-clause-fresh g c = search rules

pub returns-in_err-seed-clause-front : goal.returns-in_err-seed-clause-front
returns-in_err-seed-clause-front g c = search rules

pub returns-in_err-seed-clause-over : goal.returns-in_err-seed-clause-over
returns-in_err-seed-clause-over g c = search rules

pub returns-in-Ok-clause-fresh : goal.returns-in-Ok-clause-fresh
returns-in-Ok-clause-fresh g c = search rules

pub returns-in-Ok-clause-front : goal.returns-in-Ok-clause-front
returns-in-Ok-clause-front g c = search rules

pub returns-in-Ok-clause-over : goal.returns-in-Ok-clause-over
returns-in-Ok-clause-over g c = search rules

pub returns-in-Err-clause-fresh : goal.returns-in-Err-clause-fresh
returns-in-Err-clause-fresh g c = search rules

pub returns-in-Err-clause-front : goal.returns-in-Err-clause-front
returns-in-Err-clause-front g c = search rules

pub returns-in-Err-clause-over : goal.returns-in-Err-clause-over
returns-in-Err-clause-over g c = search rules
