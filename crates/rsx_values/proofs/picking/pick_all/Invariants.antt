use Rattle.std.proofs.Common.{◌≡◌, drop, ◌++◌, option_map}
use Rattle.rsx_values.specs.Delayed.{pick_all}
use Rattle.rsx_values.proofs.picking.pick_all.Given as goal

abbrev pub invariant-loop-choice : goal.invariant-loop-choice
invariant-loop-choice g l = option_map (λ ts. l.out.items ++ ts) (pick_all (drop l.choice-index l.choices) l.inputs.items) ≡ pick_all l.choices l.fn.inputs.items
