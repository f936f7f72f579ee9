use Rattle.std.proofs.Common.{rules}
use Rattle.rsx_combining.proofs.latest.CombineLatestNodeMachine.next_pick.Goals as goal

pub loop-at-init : goal.loop-at-init
loop-at-init g c = search rules

pub returns-then-can_pick-clause-some : goal.returns-then-can_pick-clause-some
returns-then-can_pick-clause-some g c = search rules

pub loop-at-preserved : goal.loop-at-preserved
loop-at-preserved g c = search rules
