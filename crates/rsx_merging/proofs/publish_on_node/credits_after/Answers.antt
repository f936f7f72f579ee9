use Rattle.std.proofs.Common.{rules}
use Rattle.rsx_merging.proofs.publish_on_node.credits_after.Goals as goal

pub overflow_sub-batch : goal.overflow_sub-batch
overflow_sub-batch c = search rules

pub nonzero_div-sent : goal.nonzero_div-sent
nonzero_div-sent c = search rules

pub overflow_mul-batch : goal.overflow_mul-batch
overflow_mul-batch c = search rules

pub saturating_total-requires : goal.saturating_total-requires
saturating_total-requires c = search rules

pub returns : goal.returns
returns c = search rules
