use Rattle.std.proofs.Common.{rules}
use Rattle.rsx_combining.proofs.zip.ZipNodeMachine.pop_item.Goals as goal

pub invariant_of-self : goal.invariant_of-self
invariant_of-self g c = search rules

pub returns-clause-some : goal.returns-clause-some
returns-clause-some g c = search rules

pub returns-clause-alike : goal.returns-clause-alike
returns-clause-alike g c = search rules

pub returns-clause-none : goal.returns-clause-none
returns-clause-none g c = search rules
