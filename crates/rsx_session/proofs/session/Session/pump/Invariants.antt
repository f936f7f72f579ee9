use Rattle.std.proofs.Common.{◌*◌}
use Rattle.rsx_session.specs.Sessions.{AllRun}
use Rattle.rsx_session.proofs.session.Session.pump.Given as goal

-- the slices so far spent all of their budgets
abbrev pub invariant-loop : goal.invariant-loop
invariant-loop l = AllRun (l.counter * 65536) l.fn.self l.self
