use Rattle.rsx_region.proofs.Ended.{ended_item}
use Rattle.rsx_region.proofs.inlet.count_ending.Goals as goal

pub returns-in-Next : goal.returns-in-Next
returns-in-Next g c = λ before known. ended_item before c.args.signal.now _ c.args.ended.now c.in-Next.is known
