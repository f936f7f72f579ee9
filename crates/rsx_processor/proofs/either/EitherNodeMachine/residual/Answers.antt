use Rattle.rsx_processor.proofs.either.EitherNodeMachine.residual.Goals as goal

pub returns-in-Left : goal.returns-in-Left
returns-in-Left g c = rw c.in-Left.is c.residual.ensures

pub returns-in-Right : goal.returns-in-Right
returns-in-Right g c = rw c.in-Right.is c.residual-in-Right.ensures
