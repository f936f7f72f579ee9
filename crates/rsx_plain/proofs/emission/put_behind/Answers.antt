use Rattle.std.proofs.Common.{rules}
use Rattle.rsx_plain.proofs.emission.put_behind.Goals as goal

pub returns-in_err-push-in-Some-clause-joined : goal.returns-in_err-push-in-Some-clause-joined
returns-in_err-push-in-Some-clause-joined g c = search rules

pub returns-in_err-push-in-Some-clause-ended : goal.returns-in_err-push-in-Some-clause-ended
returns-in_err-push-in-Some-clause-ended g c = search rules

pub returns-in_err-push-in-Some-clause-kept : goal.returns-in_err-push-in-Some-clause-kept
returns-in_err-push-in-Some-clause-kept g c = search rules

pub returns-in_ok-push-in-Some-clause-ended : goal.returns-in_ok-push-in-Some-clause-ended
returns-in_ok-push-in-Some-clause-ended g c = search rules

pub returns-in_ok-push-in-Some-clause-kept : goal.returns-in_ok-push-in-Some-clause-kept
returns-in_ok-push-in-Some-clause-kept g c = search rules

pub returns-in-None-clause-joined : goal.returns-in-None-clause-joined
returns-in-None-clause-joined g c = search rules

pub returns-in-None-clause-ended : goal.returns-in-None-clause-ended
returns-in-None-clause-ended g c = search rules

pub returns-in-None-clause-kept : goal.returns-in-None-clause-kept
returns-in-None-clause-kept g c = search rules

pub returns-in-Done-clause-joined : goal.returns-in-Done-clause-joined
returns-in-Done-clause-joined g c = search rules

pub returns-in-Done-clause-ended : goal.returns-in-Done-clause-ended
returns-in-Done-clause-ended g c = search rules

pub returns-in-Done-clause-kept : goal.returns-in-Done-clause-kept
returns-in-Done-clause-kept g c = search rules

pub returns-in-Failed-clause-joined : goal.returns-in-Failed-clause-joined
returns-in-Failed-clause-joined g c = search rules

pub returns-in-Failed-clause-ended : goal.returns-in-Failed-clause-ended
returns-in-Failed-clause-ended g c = search rules

pub returns-in-Failed-clause-kept : goal.returns-in-Failed-clause-kept
returns-in-Failed-clause-kept g c = search rules
