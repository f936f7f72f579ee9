use Rattle.std.proofs.Common.{rules}
use Rattle.rsx_combining.proofs.latest.CombineLatestNodeMachine.pop_front.Goals as goal

pub invariant_of-self : goal.invariant_of-self
invariant_of-self g c = search rules

pub returns-clause-ok : goal.returns-clause-ok
returns-clause-ok g c = search rules

pub returns-clause-recorded : goal.returns-clause-recorded
returns-clause-recorded g c = search rules

pub returns-clause-counts : goal.returns-clause-counts
returns-clause-counts g c = search rules

pub returns-clause-memory : goal.returns-clause-memory
returns-clause-memory g c = search rules

pub returns-clause-alike : goal.returns-clause-alike
returns-clause-alike g c = search rules
