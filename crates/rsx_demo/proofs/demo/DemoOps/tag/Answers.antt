use Rattle.std.proofs.Common.{rules}
use Rattle.rsx_demo.proofs.demo.DemoOps.tag.Goals as goal

pub returns-clause-answer : goal.returns-clause-answer
returns-clause-answer c = search rules
