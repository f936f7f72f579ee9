use Rattle.std.proofs.Common.{arith}
use Rattle.rsx_plain.proofs.Batches.{taken}
use Rattle.rsx_plain.proofs.batch.let_all_through.Goals as goal

pub returns : goal.returns
returns g c = λ e m count. taken m count c.args.left.now c.args.items.now (omega arith)
