use Rattle.std.proofs.Common.{rules}
use Rattle.rsx_plain.proofs.Overs.{chain_closed}
use Rattle.rsx_plain.proofs.chain.ChainState.+is_over.Goals as goal

pub returns-then-is_over-clause-closed : goal.returns-then-is_over-clause-closed
returns-then-is_over-clause-closed g t c = λ h m v w. chain_closed m c.args.self.now (search rules) v w

pub returns-else-is_over-clause-closed : goal.returns-else-is_over-clause-closed
returns-else-is_over-clause-closed g t c = λ h m v w. chain_closed m c.args.self.now (search rules) v w

pub returns-in-End-clause-over : goal.returns-in-End-clause-over
returns-in-End-clause-over g t c = search rules

pub returns-in-End-clause-closed : goal.returns-in-End-clause-closed
returns-in-End-clause-closed g t c = search rules

pub returns-then-is_over-clause-over : goal.returns-then-is_over-clause-over
returns-then-is_over-clause-over g t c = search rules

pub returns-else-is_over-clause-over : goal.returns-else-is_over-clause-over
returns-else-is_over-clause-over g t c = search rules
