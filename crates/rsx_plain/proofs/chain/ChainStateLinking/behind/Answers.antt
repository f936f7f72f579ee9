use Rattle.std.proofs.Common.{rules}
use Rattle.rsx_plain.proofs.chain.ChainStateLinking.behind.Goals as goal

pub returns-in_err-behind-clause-from : goal.returns-in_err-behind-clause-from
returns-in_err-behind-clause-from g c = search rules

pub returns-in_err-behind-clause-over : goal.returns-in_err-behind-clause-over
returns-in_err-behind-clause-over g c = search rules

pub returns-in_err-state-clause-from : goal.returns-in_err-state-clause-from
returns-in_err-state-clause-from g c = search rules

pub returns-in_err-state-clause-over : goal.returns-in_err-state-clause-over
returns-in_err-state-clause-over g c = search rules

pub returns-clause-from : goal.returns-clause-from
returns-clause-from g c = search rules

pub returns-clause-over : goal.returns-clause-over
returns-clause-over g c = search rules
