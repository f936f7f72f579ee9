use Rattle.std.proofs.Common.{rules}
use Rattle.rsx_collections.proofs.signals.PendingSignals.put_ending.Goals as goal

pub put_front-requires : goal.put_front-requires
put_front-requires g c = search rules

pub put_front-requires-in-Failed : goal.put_front-requires-in-Failed
put_front-requires-in-Failed g c = search rules

pub returns-in-Open-clause-left : goal.returns-in-Open-clause-left
returns-in-Open-clause-left g c = search rules

pub returns-in-Open-clause-room : goal.returns-in-Open-clause-room
returns-in-Open-clause-room g c = search rules

pub returns-in-Done-clause-left : goal.returns-in-Done-clause-left
returns-in-Done-clause-left g c = search rules

pub returns-in-Done-clause-room : goal.returns-in-Done-clause-room
returns-in-Done-clause-room g c = search rules

pub returns-in-Failed-clause-left : goal.returns-in-Failed-clause-left
returns-in-Failed-clause-left g c = search rules

pub returns-in-Failed-clause-room : goal.returns-in-Failed-clause-room
returns-in-Failed-clause-room g c = search rules
