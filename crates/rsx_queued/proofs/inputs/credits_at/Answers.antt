use Rattle.std.proofs.Common.{rules}
use Rattle.rsx_queued.proofs.inputs.credits_at.Goals as goal

pub get-requires : goal.get-requires
get-requires g c κs = search rules
