use Rattle.rsx_script.specs.Orders.{tree_of}
use Rattle.rsx_drive.proofs.Back.{reads_back}
use Rattle.rsx_drive.proofs.law.reads_back.Goals as goal

pub returns : goal.returns
returns c = reads_back (tree_of c.args.expr.now)
