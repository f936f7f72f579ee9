use Rattle.std.proofs.Common.{◌+◌, ◌*◌}
use Rattle.test_random.proofs.beside.+fn-poke_on_threads-join+arg3+poke_on_threads.Given as goal

abbrev pub decreases-join+arg3 : goal.decreases-join+arg3
decreases-join+arg3 g l = 2 * l.fewer.threads + 1

abbrev pub decreases-poke_on_threads : goal.decreases-poke_on_threads
decreases-poke_on_threads g l = 2 * l.pokes.threads
