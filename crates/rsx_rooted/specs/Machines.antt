-- What ranges and plain operators mean as nodes.
use Rattle.std.specs.Prelude.{⊤, false, true, None}
use Rattle.rsx_plain.specs.Node.{plain_allocates, plain_comes_out, plain_counted, plain_ended, plain_popped, plain_shown, plain_takes, plain_waiting, plain_wanted}
use Rattle.rsx_plain.specs.declared.node.PlainNode.{PlainNode}
use Rattle.rsx_sources.specs.Prelude.{Nothing, range_comes_out, range_pop_allocates, range_popped, range_shown, range_waiting}
use Rattle.rsx_sources.specs.declared.machine.Machine.{Ghosts as Machine}
use Rattle.rsx_sources.specs.declared.range.RangeNode.{RangeNode}

-- the meaning of ranges
abbrev pub range_machine : {T : Type 0} → Machine (RangeNode T) T
range_machine = record {
  comes_out = range_comes_out;
  waiting = range_waiting;
  shown = range_shown;
  takes = λ n i f. false;
  picks = λ n i a s. false;
  rows = λ n a s. false;
  rowed = λ n a s k. ⊥;
  took = λ n i s new. ⊤;
  heard = λ n s new. ⊤;
  picked = λ n i new. ⊤;
  recording = λ n i. Nothing;
  recorded = λ n. Nothing;
  popping = λ n. None;
  ended = λ n. false;
  done = λ n i. false;
  counted = λ n taken sent. ⊤;
  wanted = λ n i a s. 0;
  accepts = λ n a s. true;
  popped = range_popped;
  reads = λ n. None;
  rooms = λ n. false;
  crosses = λ n. false;
  pop_allocates = range_pop_allocates;
  signal_allocates = λ a n. false;
  step_allocates = λ a n. false;
}

-- the meaning of plain operators
abbrev pub plain_machine : {T : Type 0} → Machine (PlainNode T) T
plain_machine = record {
  comes_out = plain_comes_out;
  waiting = plain_waiting;
  shown = plain_shown;
  takes = λ n i f. plain_takes n i;
  picks = λ n i a s. false;
  rows = λ n a s. false;
  rowed = λ n a s k. ⊥;
  took = λ n i s new. ⊤;
  heard = λ n s new. ⊤;
  picked = λ n i new. ⊤;
  recording = λ n i. Nothing;
  recorded = λ n. Nothing;
  popping = λ n. None;
  ended = plain_ended;
  done = λ n i. false;
  counted = plain_counted;
  wanted = plain_wanted;
  accepts = λ n a s. true;
  popped = plain_popped;
  reads = λ n. None;
  rooms = λ n. false;
  crosses = λ n. false;
  pop_allocates = λ a n. false;
  signal_allocates = plain_allocates;
  step_allocates = λ a n. false;
}
