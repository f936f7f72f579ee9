use Rattle.std.proofs.Common.{refl, rules}
use Rattle.rsx_processor.specs.Trees.{IsLeftRow}
use Rattle.rsx_processor.proofs.Kept.{built_of_either, placed_of_either}
use Rattle.rsx_processor.proofs.trees.left.Goals as goal

pub returns-clause-built : goal.returns-clause-built
returns-clause-built g c = λ m hubs e built.
    let row : IsLeftRow c.args.tree.inputs c.in_ok-inputs.inputs = search rules in
    built_of_either g.A.Machine g.B.Machine c.args.tree _ (refl, row) m hubs e built

pub returns-clause-placed : goal.returns-clause-placed
returns-clause-placed g c = λ e crosses placed.
    let row : IsLeftRow c.args.tree.inputs c.in_ok-inputs.inputs = search rules in
    placed_of_either g.A.Machine.crosses g.B.Machine.crosses c.args.tree _ (refl, row) e crosses placed
