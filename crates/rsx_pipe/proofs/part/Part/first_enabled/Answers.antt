use Rattle.rsx_pipe.proofs.part.Part.first_enabled.Goals as goal

pub returns-clause-some : goal.returns-clause-some
returns-clause-some g c = rw (← c.self.view_is) c.first_enabled.ensures.some

pub returns-clause-none : goal.returns-clause-none
returns-clause-none g c = rw (← c.self.view_is) c.first_enabled.ensures.none
