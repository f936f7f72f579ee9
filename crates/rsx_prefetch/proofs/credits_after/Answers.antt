use Rattle.std.proofs.Common.{rules}
use Rattle.rsx_prefetch.proofs.credits_after.Goals as goal

pub returns : goal.returns
returns c = search rules
