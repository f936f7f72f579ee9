use Rattle.rsx_graph_moves.proofs.idle_set.IdleSet.forget.Goals as goal

pub returns-clause-idle : goal.returns-clause-idle
returns-clause-idle c = λ i. (λ has. (c.forget_moved.ensures.idle i).0 ((c.begin.ensures.idle i).0 has), λ had. (c.begin.ensures.idle i).1 ((c.forget_moved.ensures.idle i).1 had))

pub returns-clause-apart : goal.returns-clause-apart
returns-clause-apart c = λ h i known. c.forget_moved.ensures.apart h i (c.begin.ensures.apart h i known)
