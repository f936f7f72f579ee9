use Rattle.test_random.proofs.Emitters.{each_emitter}
use Rattle.test_random.proofs.threaded.work_of.Goals as goal

pub pop_emitter-second-requires : goal.pop_emitter-second-requires
pop_emitter-second-requires c = each_emitter c.args.links.now.emitters.items c.args.emitters.items c.requires.emitters
