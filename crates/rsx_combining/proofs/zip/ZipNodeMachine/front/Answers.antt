use Rattle.std.proofs.Common.{rules}
use Rattle.rsx_combining.proofs.zip.ZipNodeMachine.front.Goals as goal

pub returns-clause-shown : goal.returns-clause-shown
returns-clause-shown g c = search rules

pub returns-clause-first : goal.returns-clause-first
returns-clause-first g c = search rules
