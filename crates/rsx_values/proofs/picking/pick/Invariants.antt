use Rattle.std.proofs.Common.{◌≡◌, drop, ◌++◌, option_map}
use Rattle.rsx_values.specs.Pick.{pick}
use Rattle.rsx_values.proofs.Places.{pick_on}
use Rattle.rsx_values.proofs.picking.pick.Given as goal

abbrev pub invariant-loop-choice : goal.invariant-loop-choice
invariant-loop-choice g l = option_map (λ ts. l.out.items ++ ts) (pick_on l.failed (drop l.choice-index l.choices) l.inputs.items) ≡ pick l.choices l.fn.inputs.items
