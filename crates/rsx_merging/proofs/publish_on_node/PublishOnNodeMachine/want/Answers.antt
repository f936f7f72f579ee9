use Rattle.std.proofs.Common.{rules}
use Rattle.rsx_merging.proofs.publish_on_node.PublishOnNodeMachine.want.Goals as goal

pub capacity-requires : goal.capacity-requires
capacity-requires g c κs = search rules

pub credits_after-requires : goal.credits_after-requires
credits_after-requires g c = search rules

pub returns-then-input-eq0 : goal.returns-then-input-eq0
returns-then-input-eq0 g c = search rules

pub returns : goal.returns
returns g c = search rules
