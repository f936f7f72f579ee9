use Rattle.rsx_region.proofs.Ended.{ended_now, ended_still}
use Rattle.rsx_region.proofs.inlet.ended_by.Goals as goal

pub returns-in-Some : goal.returns-in-Some
returns-in-Some g c = λ before known. ended_still before c.args.signal.now c.args.ended c.in-Some.ending c.in-Some.is known

pub returns-in-Next : goal.returns-in-Next
returns-in-Next g c = λ before known. ended_now before c.args.signal.now _ c.args.ended c.in-None.is c.in-Next.is known

pub returns-in-Complete : goal.returns-in-Complete
returns-in-Complete g c = λ before known. ended_now before c.args.signal.now _ c.args.ended c.in-None.is c.in-Complete.is known

pub returns-in-Error : goal.returns-in-Error
returns-in-Error g c = λ before known. ended_now before c.args.signal.now _ c.args.ended c.in-None.is c.in-Error.is known
