use Rattle.std.proofs.Common.{rules}
use Rattle.rsx_sources.proofs.range.RangeNode.new.Goals as goal

pub returns-clause-at : goal.returns-clause-at
returns-clause-at g c = search rules

pub returns-clause-fresh : goal.returns-clause-fresh
returns-clause-fresh g c = search rules
