use Rattle.test_random.proofs.Emitters.{last_one, others}
use Rattle.test_random.proofs.ends.pop_emitter.Goals as goal

pub returns-clause-others : goal.returns-clause-others
returns-clause-others c = others c.args.links.now.items c.args.emitters.now.items c.pop.new.self.items c.pop.result c.pop.ensures.items c.requires

pub returns-clause-last : goal.returns-clause-last
returns-clause-last c = last_one c.args.links.now.items c.args.emitters.now.items c.pop.new.self.items c.pop.result c.pop.ensures.items c.requires
