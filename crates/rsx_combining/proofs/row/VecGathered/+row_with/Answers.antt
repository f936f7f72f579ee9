use Rattle.std.proofs.Common.{rules, arith}
use Rattle.std.proofs.lemmas.Grind.{common_steps}
use Rattle.rsx_combining.proofs.row.VecGathered.+row_with.Goals as goal

pub both_none-inputs : goal.both_none-inputs
both_none-inputs g t c = search rules

pub slice_back_joined-inputs : goal.slice_back_joined-inputs
slice_back_joined-inputs g t c = search rules

pub both_some-inputs : goal.both_some-inputs
both_some-inputs g t c = search rules

pub both_followed-inputs : goal.both_followed-inputs
both_followed-inputs g t c = search rules

pub slice_back_joined-inputs-in-None-lift : goal.slice_back_joined-inputs-in-None-lift
slice_back_joined-inputs-in-None-lift g t c = search rules

pub unreachable-requires : goal.unreachable-requires
unreachable-requires g t c = search rules

pub unreachable-unreachable : goal.unreachable-unreachable
unreachable-unreachable g t c = search rules

pub push_reserved-requires : goal.push_reserved-requires
push_reserved-requires g t c = search rules

pub row_with-requires : goal.row_with-requires
row_with-requires g t c κs within = search rules

pub both_followed-inputs-in-Ok : goal.both_followed-inputs-in-Ok
both_followed-inputs-in-Ok g t c = search rules

pub slice_back_joined-inputs-in-Ok : goal.slice_back_joined-inputs-in-Ok
slice_back_joined-inputs-in-Ok g t c = search rules

pub both_followed-inputs-in-None-pop : goal.both_followed-inputs-in-None-pop
both_followed-inputs-in-None-pop g t c = search rules

pub slice_back_joined-inputs-in-None-pop : goal.slice_back_joined-inputs-in-None-pop
slice_back_joined-inputs-in-None-pop g t c = search rules

pub unreachable-requires-in-None-pop : goal.unreachable-requires-in-None-pop
unreachable-requires-in-None-pop g t c = search rules

pub unreachable-unreachable-in-None-pop : goal.unreachable-unreachable-in-None-pop
unreachable-unreachable-in-None-pop g t c = search rules

pub put_front-requires : goal.put_front-requires
put_front-requires g t c = search rules

pub both_followed-inputs-in-Some-pop : goal.both_followed-inputs-in-Some-pop
both_followed-inputs-in-Some-pop g t c = search rules

pub slice_back_joined-inputs-in-Some-pop : goal.slice_back_joined-inputs-in-Some-pop
slice_back_joined-inputs-in-Some-pop g t c = search rules

pub returns-in-None-clause-row : goal.returns-in-None-clause-row
returns-in-None-clause-row g t c = grind (arith, common_steps) steps 1000000

pub returns-in-None-clause-taken : goal.returns-in-None-clause-taken
returns-in-None-clause-taken g t c = grind (arith, common_steps) steps 1000000

pub returns-in-None-clause-same : goal.returns-in-None-clause-same
returns-in-None-clause-same g t c = search rules

pub returns-in-None-clause-kept : goal.returns-in-None-clause-kept
returns-in-None-clause-kept g t c = search rules

pub returns-in-None-clause-room : goal.returns-in-None-clause-room
returns-in-None-clause-room g t c = search rules

pub returns-in-None-clause-memory : goal.returns-in-None-clause-memory
returns-in-None-clause-memory g t c = search rules

pub returns-in-Ok-clause-row : goal.returns-in-Ok-clause-row
returns-in-Ok-clause-row g t c = grind (arith, common_steps) steps 1000000

pub returns-in-Ok-clause-taken : goal.returns-in-Ok-clause-taken
returns-in-Ok-clause-taken g t c = search rules

pub returns-in-Ok-clause-room : goal.returns-in-Ok-clause-room
returns-in-Ok-clause-room g t c = search rules

pub returns-in-Ok-clause-memory : goal.returns-in-Ok-clause-memory
returns-in-Ok-clause-memory g t c = search rules

pub returns-in-Some-pop-clause-same : goal.returns-in-Some-pop-clause-same
returns-in-Some-pop-clause-same g t c = grind (arith, common_steps) steps 1000000

pub returns-in-Some-pop-clause-kept : goal.returns-in-Some-pop-clause-kept
returns-in-Some-pop-clause-kept g t c = grind (arith, common_steps) steps 1000000

pub returns-in-Some-pop-clause-room : goal.returns-in-Some-pop-clause-room
returns-in-Some-pop-clause-room g t c = search rules

pub returns-in-Some-pop-clause-memory : goal.returns-in-Some-pop-clause-memory
returns-in-Some-pop-clause-memory g t c = search rules
