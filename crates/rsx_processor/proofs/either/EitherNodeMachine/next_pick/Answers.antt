use Rattle.rsx_processor.proofs.either.EitherNodeMachine.next_pick.Goals as goal

pub returns-in-Left-clause-none : goal.returns-in-Left-clause-none
returns-in-Left-clause-none g c = rw c.in-Left.is c.next_pick.ensures.none

pub returns-in-Right-clause-none : goal.returns-in-Right-clause-none
returns-in-Right-clause-none g c = rw c.in-Right.is c.next_pick-in-Right.ensures.none
