use Rattle.std.proofs.Common.{ap, ◌∙◌}
use Rattle.rsx_pipe.proofs.Swaps.{none_there}
use Rattle.rsx_pipe.proofs.part.Part.swap_at.Goals as goal

pub returns-clause-none : goal.returns-clause-none
returns-clause-none g c = rw (← c.self.view_is) (λ far.
    let part = c.self.inside.rooted in
    let same = c.swap_at.ensures.none far in
    (ap (λ t. record { tree = t; root = part.root }) (c.swap_at.ensures.tree ∙ none_there part.tree c.args.at c.args.sender.now c.args.below.now far), same.0, same.1))
