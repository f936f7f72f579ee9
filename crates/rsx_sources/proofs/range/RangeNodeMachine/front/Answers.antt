use Rattle.std.proofs.Common.{rules}
use Rattle.rsx_sources.proofs.range.RangeNodeMachine.front.Goals as goal

pub returns-then-self-clause-shown : goal.returns-then-self-clause-shown
returns-then-self-clause-shown g c = search rules

pub returns-then-self-clause-first : goal.returns-then-self-clause-first
returns-then-self-clause-first g c = search rules
