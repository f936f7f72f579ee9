use Rattle.rsx_pipe.proofs.part.Part.make.Goals as goal

pub returns-clause-made : goal.returns-clause-made
returns-clause-made g c = rw (← c.self.view_is) c.make.ensures.made

pub returns-clause-alone : goal.returns-clause-alone
returns-clause-alone g c = rw (← c.self.view_is) c.make.ensures.alone

pub returns-clause-enabled : goal.returns-clause-enabled
returns-clause-enabled g c = rw (← c.self.view_is) c.make.ensures.enabled

pub returns-clause-err : goal.returns-clause-err
returns-clause-err g c = rw (← c.self.view_is) c.make.ensures.err

pub returns-clause-memory : goal.returns-clause-memory
returns-clause-memory g c = rw (← c.self.view_is) c.make.ensures.memory

pub returns-clause-same : goal.returns-clause-same
returns-clause-same g c = rw (← c.self.view_is) c.make.ensures.same
