use Rattle.std.proofs.Common.{rules, arith}
use Rattle.std.proofs.lemmas.Grind.{common_steps}
use Rattle.rsx_merging.proofs.concat_node.+turn.Goals as goal

pub turn-requires : goal.turn-requires
turn-requires t c = search rules

pub overflow_add-result : goal.overflow_add-result
overflow_add-result t c = search rules

pub returns-in-Some-Done-default-clause-turn : goal.returns-in-Some-Done-default-clause-turn
returns-in-Some-Done-default-clause-turn t c = search rules

pub returns-in-Some-Done-default-clause-within : goal.returns-in-Some-Done-default-clause-within
returns-in-Some-Done-default-clause-within t c = search rules

pub returns-in_default : goal.returns-in_default
returns-in_default t c = search rules

pub returns-in_default-2-clause-turn : goal.returns-in_default-2-clause-turn
returns-in_default-2-clause-turn t c = grind (arith, common_steps)

pub returns-in_default-2-clause-within : goal.returns-in_default-2-clause-within
returns-in_default-2-clause-within t c = search rules
