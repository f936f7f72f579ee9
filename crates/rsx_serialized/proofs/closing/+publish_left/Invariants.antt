use Rattle.std.proofs.Common.{◌+◌, length}
use Rattle.std.specs.Option.{option_to_list}
use Rattle.rsx_serialized.proofs.closing.+publish_left.Given as goal

abbrev pub decreases-publish_left : goal.decreases-publish_left
decreases-publish_left g l = length (option_to_list l.waiting) + length l.remaining.now
