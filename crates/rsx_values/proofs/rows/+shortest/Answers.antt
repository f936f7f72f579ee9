use Rattle.std.proofs.Common.{rules, arith}
use Rattle.std.proofs.lemmas.Grind.{common_steps}
use Rattle.rsx_values.proofs.JoiningPlaces.{shortest_more}
use Rattle.rsx_values.proofs.rows.+shortest.Goals as goal

pub returns-then-is_empty : goal.returns-then-is_empty
returns-then-is_empty g t c = grind (arith, common_steps)

pub shortest-least-requires : goal.shortest-least-requires
shortest-least-requires g t c κs within = search rules

pub returns-in-None : goal.returns-in-None
returns-in-None g t c = grind (arith, common_steps)

pub returns-then-items-least : goal.returns-then-items-least
returns-then-items-least g t c = search rules

pub returns-else-items-least : goal.returns-else-items-least
returns-else-items-least g t c = grind (arith, shortest_more)
