use Rattle.std.proofs.Common.{arith}
use Rattle.std.proofs.lemmas.Bool.Decides.{nat_tests}
use Rattle.rsx_tck.proofs.Lines.{is_empty_text}
use Rattle.rsx_tck.proofs.read.trace_in.Goals as goal

pub returns-then-is_empty : goal.returns-then-is_empty
returns-then-is_empty c = is_empty_text c.args.text.now (grind (arith, nat_tests))
