use Rattle.std.proofs.Common.{rules}
use Rattle.rsx_demo.proofs.demo.DemoOps.map.Goals as goal

pub returns-in_default-clause-answer : goal.returns-in_default-clause-answer
returns-in_default-clause-answer c = search rules
