use Rattle.std.proofs.Common.{◌≡◌, ◌++◌, take}
use Rattle.std.specs.Prelude.{codes}
use Rattle.std.specs.String.{string_bytes}
use Rattle.rsx_tck.specs.Format.{lines_text}
use Rattle.rsx_tck.proofs.print_events.print_trace.Given as goal

abbrev pub invariant-loop-event : goal.invariant-loop-event
invariant-loop-event l = string_bytes l.text ≡ codes "trace 2\n" ++ lines_text (take l.event-index l.events)
