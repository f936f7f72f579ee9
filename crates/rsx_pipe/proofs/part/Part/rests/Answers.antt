use Rattle.rsx_pipe.proofs.part.Part.rests.Goals as goal

pub returns : goal.returns
returns g c = rw (← c.self.view_is) c.rests.ensures
