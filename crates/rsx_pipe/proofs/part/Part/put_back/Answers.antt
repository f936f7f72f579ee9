use Rattle.rsx_pipe.proofs.part.Part.put_back.Goals as goal

pub returns : goal.returns
returns g c = rw (← c.self.view_is) c.put_back.ensures
