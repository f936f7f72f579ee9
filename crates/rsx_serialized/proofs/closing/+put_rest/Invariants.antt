use Rattle.std.proofs.Common.{length}
use Rattle.rsx_serialized.proofs.closing.+put_rest.Given as goal

abbrev pub decreases-put_rest : goal.decreases-put_rest
decreases-put_rest g l = length l.remaining.now
