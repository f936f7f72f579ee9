use Rattle.std.proofs.Common.{length}
use Rattle.rsx_rooted.proofs.batch.+moves_in.Given as goal

abbrev pub decreases-moves_in : goal.decreases-moves_in
decreases-moves_in g l = length l.notes.now
