use Rattle.std.proofs.Common.{rules, arith}
use Rattle.std.proofs.lemmas.Grind.{common_steps}
use Rattle.rsx_combining.proofs.copies.VecOptionLatestCopies.+push_copies.Goals as goal

pub returns-in_err-copy-in-Some-first : goal.returns-in_err-copy-in-Some-first
returns-in_err-copy-in-Some-first g t c = search rules

pub returns-in_err-push-in-Some-first : goal.returns-in_err-push-in-Some-first
returns-in_err-push-in-Some-first g t c = search rules

pub push_copies-requires : goal.push_copies-requires
push_copies-requires g t c κs within = search rules

pub returns-in_err-push-in-None-first : goal.returns-in_err-push-in-None-first
returns-in_err-push-in-None-first g t c = search rules

pub push_copies-requires-in-None-first : goal.push_copies-requires-in-None-first
push_copies-requires-in-None-first g t c κs within = search rules

pub returns-in-None : goal.returns-in-None
returns-in-None g t c = grind (arith, common_steps) steps 1000000

pub returns-in_ok-push-in-Some-first : goal.returns-in_ok-push-in-Some-first
returns-in_ok-push-in-Some-first g t c = grind (arith, common_steps) steps 1000000

pub returns-in_ok-push-in-None-first : goal.returns-in_ok-push-in-None-first
returns-in_ok-push-in-None-first g t c = grind (arith, common_steps) steps 1000000
