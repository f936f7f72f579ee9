use Rattle.rsx_pipe.proofs.part.Part.make_ahead.Goals as goal

pub returns-clause-made : goal.returns-clause-made
returns-clause-made g c = rw (← c.self.view_is) c.make_ahead.ensures.made
