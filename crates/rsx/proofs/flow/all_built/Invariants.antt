use Rattle.std.proofs.Common.{◌≡◌, ◌++◌, map, option_map}
use Rattle.rsx.specs.Built.{built}
use Rattle.rsx.specs.Flow.{all_of}
use Rattle.rsx.proofs.flow.all_built.Given as goal

abbrev pub invariant-loop-input : goal.invariant-loop-input
invariant-loop-input g l =
    (all_of (map built l.fn.inputs.items) ≡ option_map (λ es. l.exprs.items ++ es) (all_of (map built l.input-iterator.rest.items)))
    × (goal.iterator-loop-input g).can_next l.input-iterator × (goal.iterator-loop-input g).is_finite l.input-iterator
