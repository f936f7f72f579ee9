use Rattle.std.proofs.Common.{rules}
use Rattle.rsx_collections.proofs.buffered.Buffered.clear.Goals as goal

pub returns : goal.returns
returns g c = search rules
