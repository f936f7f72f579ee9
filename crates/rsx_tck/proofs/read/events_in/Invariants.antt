use Rattle.std.proofs.Common.{◌≡◌, ◌+◌, ◌≤◌, length}
use Rattle.rsx_tck.specs.Texts.{lines}
use Rattle.rsx_tck.specs.Reading.{events_of}
use Rattle.rsx_tck.proofs.Lines.{with_front}
use Rattle.rsx_tck.proofs.read.events_in.Given as goal

abbrev pub invariant-lines : goal.invariant-lines
invariant-lines l = record {
  read : with_front l.events.items (events_of l.number l.stamped (lines l.rest)) ≡ events_of 2 l.stamped (lines l.text);
  counted : l.number + length l.rest ≤ length l.text + 2;
}

abbrev pub decreases-lines : goal.decreases-lines
decreases-lines l = length l.rest
