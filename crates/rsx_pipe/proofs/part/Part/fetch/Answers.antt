use Rattle.rsx_pipe.proofs.part.Part.fetch.Goals as goal

pub returns : goal.returns
returns g c = rw (← c.self.view_is) c.fetch.ensures
