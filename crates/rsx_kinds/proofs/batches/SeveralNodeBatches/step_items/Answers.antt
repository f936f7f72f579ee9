use Rattle.rsx_kinds.proofs.ZipRows.{rows_out}
use Rattle.rsx_kinds.proofs.batches.SeveralNodeBatches.step_items.Goals as goal

pub returns-in-Some-clause-yes : goal.returns-in-Some-clause-yes
returns-in-Some-clause-yes g c =
    rw c.in-Zip.is (λ e. rows_out (g.O.Ops.meaning c.args.ops.now) c.rows_out.new.items.items c.in-Zip.node c.rows_out.new.self c.rows_out.ensures.out)
