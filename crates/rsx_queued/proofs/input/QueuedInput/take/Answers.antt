use Rattle.std.proofs.Common.{rules, arith}
use Rattle.rsx_queued.proofs.Queues.{gives_item, gives_ending}
use Rattle.rsx_queued.proofs.input.QueuedInput.take.Goals as goal

pub returns-then-is_gone-clause-signal : goal.returns-then-is_gone-clause-signal
returns-then-is_gone-clause-signal g c = search rules

pub returns-then-is_gone-clause-state : goal.returns-then-is_gone-clause-state
returns-then-is_gone-clause-state g c = search rules

pub returns-then-is_empty-clause-signal : goal.returns-then-is_empty-clause-signal
returns-then-is_empty-clause-signal g c = search rules

pub returns-then-is_empty-clause-state : goal.returns-then-is_empty-clause-state
returns-then-is_empty-clause-state g c = search rules

pub returns-then-is_empty-clause-value : goal.returns-then-is_empty-clause-value
returns-then-is_empty-clause-value g c = search rules

pub returns-in-Some-clause-signal : goal.returns-in-Some-clause-signal
returns-in-Some-clause-signal g c = search rules

pub returns-in-Some-clause-state : goal.returns-in-Some-clause-state
returns-in-Some-clause-state g c = search rules

pub returns-in-Some-clause-value : goal.returns-in-Some-clause-value
returns-in-Some-clause-value g c = grind (arith, gives_item, gives_ending)

pub returns-in-None-clause-signal : goal.returns-in-None-clause-signal
returns-in-None-clause-signal g c = search rules

pub returns-in-None-clause-state : goal.returns-in-None-clause-state
returns-in-None-clause-state g c = search rules
