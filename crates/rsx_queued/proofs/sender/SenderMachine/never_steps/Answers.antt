use Rattle.rsx_queued.proofs.sender.SenderMachine.never_steps.Goals as goal

pub returns-in-Direct : goal.returns-in-Direct
returns-in-Direct g c = λ yes.
    rw c.in-Direct.is (λ asked sent. (λ i. (c.never_steps.ensures yes asked sent).0 i, (c.never_steps.ensures yes asked sent).1))
