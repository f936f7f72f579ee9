use Rattle.std.proofs.Common.{false}
use Rattle.std.proofs.lemmas.List.{get_or-replicate}
use Rattle.rsx_tck.proofs.workers.Workers.none.Goals as goal

pub returns-clause-none : goal.returns-clause-none
returns-clause-none c = λ w lt. get_or-replicate 256 w false false lt
