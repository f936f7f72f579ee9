use Rattle.rsx_tck.proofs.explain.Summary.add_to.Goals as goal

pub returns : goal.returns
returns c = c.in_ok-write.ensures.bytes
