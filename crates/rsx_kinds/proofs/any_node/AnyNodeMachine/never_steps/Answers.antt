use Rattle.rsx_kinds.proofs.any_node.AnyNodeMachine.never_steps.Goals as goal

pub returns-in-Several : goal.returns-in-Several
returns-in-Several g c = λ yes.
    rw c.in-Several.is (λ asked sent. (λ i. (c.never_steps.ensures yes asked sent).0 i, (c.never_steps.ensures yes asked sent).1))

pub returns-in-GroupBy : goal.returns-in-GroupBy
returns-in-GroupBy g c = λ yes.
    rw c.in-GroupBy.is (λ asked sent. (λ i. (c.never_steps-in-GroupBy.ensures yes asked sent).0 i, (c.never_steps-in-GroupBy.ensures yes asked sent).1))
