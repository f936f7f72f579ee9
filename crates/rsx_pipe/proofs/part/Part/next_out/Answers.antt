use Rattle.rsx_pipe.proofs.part.Part.next_out.Goals as goal

pub returns : goal.returns
returns g c = λ m. rw (← c.self.view_is) (c.next_out.ensures m)
