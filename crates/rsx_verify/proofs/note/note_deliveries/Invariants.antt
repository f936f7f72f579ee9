use Rattle.std.proofs.Common.{◌≡◌, ◌++◌, take}
use Rattle.rsx_verify.specs.Events.{deliveries}
use Rattle.rsx_verify.proofs.note.note_deliveries.Given as goal

-- what was delivered so far is written down
abbrev pub invariant-loop-sub : goal.invariant-loop-sub
invariant-loop-sub g l = l.events.items ≡ l.fn.events.items ++ deliveries l.fn.worker (take l.sub-index l.fn.delivered)
