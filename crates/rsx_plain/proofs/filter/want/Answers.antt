use Rattle.std.proofs.Common.{rules}
use Rattle.rsx_plain.proofs.filter.want.Goals as goal

pub returns : goal.returns
returns c = search rules
