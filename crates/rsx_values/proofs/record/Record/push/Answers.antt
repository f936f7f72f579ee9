use Rattle.std.proofs.Common.{rules, arith}
use Rattle.std.proofs.lemmas.Grind.{common_steps}
use Rattle.rsx_values.proofs.Records.{pushing}
use Rattle.rsx_values.proofs.record.Record.push.Goals as goal

pub overflow_sub-at : goal.overflow_sub-at
overflow_sub-at c = grind (arith, common_steps)

pub index_mut-requires : goal.index_mut-requires
index_mut-requires c = grind (arith, common_steps)

pub overflow_add-index_mut : goal.overflow_add-index_mut
overflow_add-index_mut c = grind (arith, pushing)

pub invariant_of-self : goal.invariant_of-self
invariant_of-self c = grind (arith, pushing)

pub returns-then-joins_last-clause-ok : goal.returns-then-joins_last-clause-ok
returns-then-joins_last-clause-ok c = grind (arith, pushing)

pub returns-then-joins_last-clause-memory : goal.returns-then-joins_last-clause-memory
returns-then-joins_last-clause-memory c = search rules

pub invariant_of-self-in_err-push : goal.invariant_of-self-in_err-push
invariant_of-self-in_err-push c = search rules

pub returns-in_err-push-clause-ok : goal.returns-in_err-push-clause-ok
returns-in_err-push-clause-ok c = search rules

pub returns-in_err-push-clause-err : goal.returns-in_err-push-clause-err
returns-in_err-push-clause-err c = search rules

pub returns-in_err-push-clause-memory : goal.returns-in_err-push-clause-memory
returns-in_err-push-clause-memory c = search rules

pub invariant_of-self-2 : goal.invariant_of-self-2
invariant_of-self-2 c = grind (arith, pushing)

pub returns-clause-ok : goal.returns-clause-ok
returns-clause-ok c = grind (arith, pushing)

pub returns-clause-memory : goal.returns-clause-memory
returns-clause-memory c = search rules
