use Rattle.std.proofs.Common.{rules}
use Rattle.rsx_script.proofs.print.Answer.add_to.Goals as goal

pub returns-in_err-push_str-clause-same : goal.returns-in_err-push_str-clause-same
returns-in_err-push_str-clause-same c = search rules
