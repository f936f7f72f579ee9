use Rattle.std.proofs.Common.{rules}
use Rattle.rsx_plain.proofs.chain.ChainStateLinking.linked.Goals as goal

pub returns-in_err-first-clause-fresh : goal.returns-in_err-first-clause-fresh
returns-in_err-first-clause-fresh g c = search rules

pub returns-in_err-first-clause-over : goal.returns-in_err-first-clause-over
returns-in_err-first-clause-over g c = search rules

pub returns-in_err-chain-clause-fresh : goal.returns-in_err-chain-clause-fresh
returns-in_err-chain-clause-fresh g c = search rules

pub returns-in_err-chain-clause-over : goal.returns-in_err-chain-clause-over
returns-in_err-chain-clause-over g c = search rules

pub returns-clause-fresh : goal.returns-clause-fresh
returns-clause-fresh g c = search rules

pub returns-clause-over : goal.returns-clause-over
returns-clause-over g c = search rules
