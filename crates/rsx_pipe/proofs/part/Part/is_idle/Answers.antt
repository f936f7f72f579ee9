use Rattle.rsx_pipe.proofs.part.Part.is_idle.Goals as goal

pub returns-clause-yes : goal.returns-clause-yes
returns-clause-yes g c = rw (← c.self.view_is) c.is_idle.ensures.yes

pub returns-clause-no : goal.returns-clause-no
returns-clause-no g c = rw (← c.self.view_is) c.is_idle.ensures.no
