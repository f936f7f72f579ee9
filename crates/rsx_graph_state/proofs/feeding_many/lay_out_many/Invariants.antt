use Rattle.std.proofs.Common.{◌≡◌, reverse}
use Rattle.rsx_rooted.specs.Taking.{blocks}
use Rattle.rsx_graph_state.proofs.feeding_many.lay_out_many.Given as goal

abbrev pub invariant-loop-made : goal.invariant-loop-made
invariant-loop-made g l = l.items.items ≡ blocks l.made (reverse l.from.items)
