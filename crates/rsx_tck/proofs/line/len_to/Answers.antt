use Rattle.std.proofs.Common.{sym}
use Rattle.std.specs.Prelude.{◌==◌}
use Rattle.rsx_types.proofs.Places.{position_none}
use Rattle.rsx_tck.proofs.line.len_to.Goals as goal

pub returns-in-None-clause-place : goal.returns-in-None-clause-place
returns-in-None-clause-place c = position_none (λ b. b == c.args.separator) c.args.bytes.now (sym c.in-None.ensures)
