use Rattle.std.proofs.Common.{rules}
use Rattle.rsx_queued.proofs.input.QueuedInput.front.Goals as goal

pub is_gone-requires : goal.is_gone-requires
is_gone-requires g c κs = search rules

pub returns-then-is_gone : goal.returns-then-is_gone
returns-then-is_gone g c = search rules

pub is_empty-requires : goal.is_empty-requires
is_empty-requires g c κs = search rules

pub returns-then-not-is_empty : goal.returns-then-not-is_empty
returns-then-not-is_empty g c = search rules

pub front-requires : goal.front-requires
front-requires g c = search rules

pub returns : goal.returns
returns g c = search rules
