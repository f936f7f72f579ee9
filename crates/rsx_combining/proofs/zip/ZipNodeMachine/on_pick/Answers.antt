use Rattle.std.proofs.Common.{rules, arith}
use Rattle.rsx_combining.proofs.Zips.{ending_taken}
use Rattle.rsx_combining.proofs.zip.ZipNodeMachine.on_pick.Goals as goal

pub same-self : goal.same-self
same-self g c = search rules

pub returns-then-not-may_end-clause-err : goal.returns-then-not-may_end-clause-err
returns-then-not-may_end-clause-err g c = search rules

pub returns-then-not-may_end-clause-not_enabled : goal.returns-then-not-may_end-clause-not_enabled
returns-then-not-may_end-clause-not_enabled g c = search rules

pub returns-then-not-may_end-clause-same : goal.returns-then-not-may_end-clause-same
returns-then-not-may_end-clause-same g c = search rules

pub put-requires : goal.put-requires
put-requires g c = search rules

pub overflow_cast-self : goal.overflow_cast-self
overflow_cast-self g c = search rules

pub invariant_of-self : goal.invariant_of-self
invariant_of-self g c = search rules

pub same-self-in-None : goal.same-self-in-None
same-self-in-None g c = search rules

pub returns-in-Some-clause-ok : goal.returns-in-Some-clause-ok
returns-in-Some-clause-ok g c = grind (arith, ending_taken)

pub returns-in-Some-clause-made : goal.returns-in-Some-clause-made
returns-in-Some-clause-made g c = search rules

pub returns-in-Some-clause-enabled : goal.returns-in-Some-clause-enabled
returns-in-Some-clause-enabled g c = search rules

pub returns-in-Some-clause-recorded : goal.returns-in-Some-clause-recorded
returns-in-Some-clause-recorded g c = search rules

pub returns-in-Some-clause-composes : goal.returns-in-Some-clause-composes
returns-in-Some-clause-composes g c = search rules

pub returns-in-Some-clause-counts : goal.returns-in-Some-clause-counts
returns-in-Some-clause-counts g c = search rules

pub returns-in-None-clause-err : goal.returns-in-None-clause-err
returns-in-None-clause-err g c = search rules

pub returns-in-None-clause-not_enabled : goal.returns-in-None-clause-not_enabled
returns-in-None-clause-not_enabled g c = search rules

pub returns-in-None-clause-same : goal.returns-in-None-clause-same
returns-in-None-clause-same g c = search rules
