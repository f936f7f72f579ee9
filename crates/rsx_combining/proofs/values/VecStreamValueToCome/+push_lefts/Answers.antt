use Rattle.std.proofs.Common.{rules, arith}
use Rattle.std.proofs.lemmas.Grind.{common_steps}
use Rattle.rsx_combining.proofs.values.VecStreamValueToCome.+push_lefts.Goals as goal

pub shared_whole_as_slice-push_left : goal.shared_whole_as_slice-push_left
shared_whole_as_slice-push_left g t c = search rules

pub returns-in_err-push_left-in-None-split_first : goal.returns-in_err-push_left-in-None-split_first
returns-in_err-push_left-in-None-split_first g t c = search rules

pub push_lefts-requires : goal.push_lefts-requires
push_lefts-requires g t c κs within = search rules

pub returns-in_err-push_left-in-Some-split_first : goal.returns-in_err-push_left-in-Some-split_first
returns-in_err-push_left-in-Some-split_first g t c = search rules

pub push_lefts-requires-in-Some-split_first : goal.push_lefts-requires-in-Some-split_first
push_lefts-requires-in-Some-split_first g t c κs within = search rules

pub returns-in-None : goal.returns-in-None
returns-in-None g t c = grind (arith, common_steps) steps 1000000

pub returns-in_ok-push_left-in-None-split_first : goal.returns-in_ok-push_left-in-None-split_first
returns-in_ok-push_left-in-None-split_first g t c = grind (arith, common_steps) steps 1000000

pub returns-in_ok-push_left-in-Some-split_first : goal.returns-in_ok-push_left-in-Some-split_first
returns-in_ok-push_left-in-Some-split_first g t c = grind (arith, common_steps) steps 1000000
