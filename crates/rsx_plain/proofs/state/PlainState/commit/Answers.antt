use Rattle.std.proofs.Common.{rules}
use Rattle.rsx_plain.proofs.state.PlainState.commit.Goals as goal

pub returns : goal.returns
returns g c = search rules
