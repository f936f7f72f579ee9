use Rattle.std.specs.String.{string_bytes}
use Rattle.rsx_tck.proofs.Traces.{printed_text}
use Rattle.rsx_tck.proofs.print_events.print_trace.Goals as goal

pub returns-clause-read : goal.returns-clause-read
returns-clause-read c = λ fits. printed_text (string_bytes c.push_str-2.new.self) (string_bytes c.loop-event.text) c.loop-event.event-index c.args.events.now c.loop-event.invariant c.loop-event-test.false c.in_ok-push_str-2.ensures.bytes fits
