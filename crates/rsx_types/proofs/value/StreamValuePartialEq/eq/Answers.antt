use Rattle.std.proofs.Common.{rules}
use Rattle.rsx_types.proofs.value.StreamValuePartialEq.eq.Goals as goal

pub returns-then-has_equal_items : goal.returns-then-has_equal_items
returns-then-has_equal_items g c = search rules

pub returns-else-has_equal_items : goal.returns-else-has_equal_items
returns-else-has_equal_items g c = search rules
