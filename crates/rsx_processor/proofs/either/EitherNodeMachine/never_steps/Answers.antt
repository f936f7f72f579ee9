use Rattle.rsx_processor.proofs.either.EitherNodeMachine.never_steps.Goals as goal

pub returns-in-Left : goal.returns-in-Left
returns-in-Left g c = λ yes.
    rw c.in-Left.is (λ asked sent. (λ i. (c.never_steps.ensures yes asked sent).0 i, (c.never_steps.ensures yes asked sent).1))

pub returns-in-Right : goal.returns-in-Right
returns-in-Right g c = λ yes.
    rw c.in-Right.is (λ asked sent. (λ i. (c.never_steps-in-Right.ensures yes asked sent).0 i, (c.never_steps-in-Right.ensures yes asked sent).1))
