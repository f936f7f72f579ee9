use Rattle.rsx_pipe.proofs.part.Part.enabled.Goals as goal

pub returns : goal.returns
returns g c = λ m. rw (← c.self.view_is) (c.enabled.ensures m)
