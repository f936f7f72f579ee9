use Rattle.std.proofs.Common.{rules, arith}
use Rattle.std.proofs.lemmas.Grind.{common_steps}
use Rattle.rsx_values.proofs.picking.take_at.Goals as goal

pub index-requires : goal.index-requires
index-requires g c = search rules

pub index_mut-requires : goal.index_mut-requires
index_mut-requires g c = search rules

pub remove-requires : goal.remove-requires
remove-requires g c = search rules

pub returns-in-Some-Next : goal.returns-in-Some-Next
returns-in-Some-Next g c = grind (arith, common_steps)

pub returns-in-Some : goal.returns-in-Some
returns-in-Some g c = grind (arith, common_steps)

pub returns-in-None : goal.returns-in-None
returns-in-None g c = grind (arith, common_steps)
