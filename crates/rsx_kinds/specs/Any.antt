-- A node of any kind: its meaning is that of its kind. A node of a tree is one of any kind, with the queue of its edge where that
-- crosses to another region.
use Rattle.std.specs.Prelude.{⊤, ℕ, Bool, true, false, List, Option, None}
use Rattle.rsx_sources.specs.Prelude.{Note, Nothing, Signal, Meaning, Allocates, Stream, Incoming, Reading}
use Rattle.rsx_sources.specs.declared.machine.Front.{Front}
use Rattle.rsx_sources.specs.declared.machine.Machine.{Ghosts as Machine}
use Rattle.rsx_queued.specs.declared.sender.Sender.{Sender}
use Rattle.rsx_queued.specs.Sender.{is_crossing, sender_comes_out, sender_waiting, sender_shown, sender_takes, sender_picks, sender_rows, sender_rowed, sender_took, sender_heard, sender_picked, sender_recording, sender_recorded, sender_popping, sender_ended, sender_done, sender_counted, sender_wanted, sender_accepts, sender_popped, sender_reads, sender_rooms, sender_pop_allocates, sender_signal_allocates, sender_step_allocates}
use Rattle.rsx_plain.specs.Node.{plain_comes_out, plain_waiting, plain_shown, plain_popped, plain_takes, plain_wanted, plain_ended, plain_allocates, plain_counted}
use Rattle.rsx_kinds.specs.Several.{several_comes_out, several_waiting, several_shown, several_takes, several_picks, several_rows, several_rowed, several_took, several_picked, several_recording, several_recorded, several_ended, several_done, several_counted, several_wanted, several_popped, several_step_allocates}
use Rattle.rsx_merging.specs.PublishOn.{publish_comes_out, publish_waiting, publish_shown, publish_popped, publish_takes, publish_wanted, publish_ended, publish_counted}
use Rattle.rsx_window.specs.Window.{window_comes_out, window_waiting, window_shown, window_takes, window_ended, window_done, window_wanted, IsPoppedWindow, CountsItems}
use Rattle.rsx_delayed.specs.FlatMapDelay.{flat_delay_comes_out, flat_delay_waiting, flat_delay_shown, flat_delay_takes, flat_delay_picks, flat_delay_recording, flat_delay_recorded, flat_delay_ended, flat_delay_done, flat_delay_counted, flat_delay_wanted, flat_delay_popped}
use Rattle.rsx_delayed.specs.PublishOnEager.{eager_comes_out, eager_waiting, eager_shown, eager_takes, eager_picks, eager_recording, eager_recorded, eager_popping, eager_ended, eager_done, eager_wanted, eager_popped, IsEagerCounted}
use Rattle.rsx_merging.specs.FlatMap.{flat_comes_out, flat_waiting, flat_shown, flat_takes, flat_picks, flat_recording, flat_recorded, flat_ended, flat_done, flat_wanted, flat_popped, IsGoing}
use Rattle.rsx_grouping.specs.GroupBy.{group_comes_out, group_waiting, group_shown, group_takes, group_picks, group_recording, group_recorded, group_ended, group_done, group_counted, group_wanted, IsPoppedGroup}
use Rattle.rsx_kinds.specs.Source.{source_comes_out, source_waiting, source_shown, source_popped, source_reads, source_counted, source_rooms, source_pop_allocates}
use Rattle.rsx_kinds.specs.declared.any_node.AnyNode.{AnyNode}
use Rattle.rsx_kinds.specs.declared.any_node.AnyNode.TheVariants.{Source, Plain, Several, PublishOn, PublishOnEager, Window, FlatMap, FlatMapDelay, GroupBy}

-- what still comes out
abbrev pub any_comes_out : {T : Type 0} → Meaning T → AnyNode T → Incoming T → Note → Option (Stream T)
any_comes_out m (Source n) inc k = source_comes_out m n inc k
any_comes_out m (Plain n) inc k = plain_comes_out m n inc k
any_comes_out m (Several n) inc k = several_comes_out m n inc k
any_comes_out m (PublishOn n) inc k = publish_comes_out m n inc k
any_comes_out m (PublishOnEager n) inc k = eager_comes_out m n inc k
any_comes_out m (Window n) inc k = window_comes_out m n inc k
any_comes_out m (FlatMap n) inc k = flat_comes_out m n inc k
any_comes_out m (FlatMapDelay n) inc k = flat_delay_comes_out m n inc k
any_comes_out m (GroupBy n) inc k = group_comes_out m n inc k

-- the signal that waits
abbrev pub any_waiting : {T : Type 0} → Meaning T → AnyNode T → Option (Signal T)
any_waiting m (Source n) = source_waiting m n
any_waiting m (Plain n) = plain_waiting m n
any_waiting m (Several n) = several_waiting m n
any_waiting m (PublishOn n) = publish_waiting m n
any_waiting m (PublishOnEager n) = eager_waiting m n
any_waiting m (Window n) = window_waiting m n
any_waiting m (FlatMap n) = flat_waiting m n
any_waiting m (FlatMapDelay n) = flat_delay_waiting m n
any_waiting m (GroupBy n) = group_waiting m n

-- which signal that is
abbrev pub any_shown : {T : Type 0} → AnyNode T → Option Front
any_shown (Source n) = source_shown n
any_shown (Plain n) = plain_shown n
any_shown (Several n) = several_shown n
any_shown (PublishOn n) = publish_shown n
any_shown (PublishOnEager n) = eager_shown n
any_shown (Window n) = window_shown n
any_shown (FlatMap n) = flat_shown n
any_shown (FlatMapDelay n) = flat_delay_shown n
any_shown (GroupBy n) = group_shown n

-- whether such a signal of an input can be taken; a source has no input
abbrev pub any_takes : {T : Type 0} → AnyNode T → ℕ → Front → Bool
any_takes (Source n) i f = false
any_takes (Plain n) i f = plain_takes n i
any_takes (Several n) i f = several_takes n i f
any_takes (PublishOn n) i f = publish_takes n i f
any_takes (PublishOnEager n) i f = eager_takes n i f
any_takes (Window n) i f = window_takes n i
any_takes (FlatMap n) i f = flat_takes n i f
any_takes (FlatMapDelay n) i f = flat_delay_takes n i f
any_takes (GroupBy n) i f = group_takes n i

-- whether an input can be picked; only a node of several inputs, one of lanes, and `publishOnEager` pick one
abbrev pub any_picks : {T : Type 0} → AnyNode T → ℕ → ℕ → ℕ → Bool
any_picks (Source n) i asked sent = false
any_picks (Plain n) i asked sent = false
any_picks (Several n) i asked sent = several_picks n i asked sent
any_picks (PublishOn n) i asked sent = false
any_picks (PublishOnEager n) i asked sent = eager_picks n i asked sent
any_picks (Window n) i asked sent = false
any_picks (FlatMap n) i asked sent = flat_picks n i asked sent
any_picks (FlatMapDelay n) i asked sent = flat_delay_picks n i asked sent
any_picks (GroupBy n) i asked sent = group_picks n i asked sent

-- whether a row can be made
abbrev pub any_rows : {T : Type 0} → AnyNode T → ℕ → ℕ → Bool
any_rows (Source n) asked sent = false
any_rows (Plain n) asked sent = false
any_rows (Several n) asked sent = several_rows n asked sent
any_rows (PublishOn n) asked sent = false
any_rows (PublishOnEager n) asked sent = false
any_rows (Window n) asked sent = false
any_rows (FlatMap n) asked sent = false
any_rows (FlatMapDelay n) asked sent = false
any_rows (GroupBy n) asked sent = false

-- what a row makes of it
abbrev pub any_rowed : {T : Type 0} → AnyNode T → ℕ → ℕ → AnyNode T → Type 0
any_rowed (Several a) asked sent (Several b) = several_rowed a asked sent b
any_rowed a asked sent b = ⊥

-- what it is once it took in a signal of an input, and once it picked one: only a node of several inputs could make a step of which
-- nothing is recorded
abbrev pub any_took : {T : Type 0} → AnyNode T → ℕ → Signal T → AnyNode T → Type 0
any_took (Several a) i s (Several b) = several_took a i s b
any_took (Several a) i s b = ⊥
any_took a i s b = ⊤

abbrev pub any_picked : {T : Type 0} → AnyNode T → ℕ → AnyNode T → Type 0
any_picked (Several a) i (Several b) = several_picked a i b
any_picked (Several a) i b = ⊥
any_picked a i b = ⊤

-- what picking an input adds to what it recorded
abbrev pub any_recording : {T : Type 0} → AnyNode T → ℕ → Note
any_recording (Source n) i = Nothing
any_recording (Plain n) i = Nothing
any_recording (Several n) i = several_recording n i
any_recording (PublishOn n) i = Nothing
any_recording (PublishOnEager n) i = eager_recording n i
any_recording (Window n) i = Nothing
any_recording (FlatMap n) i = flat_recording n i
any_recording (FlatMapDelay n) i = flat_delay_recording n i
any_recording (GroupBy n) i = group_recording n i

-- what it recorded
abbrev pub any_recorded : {T : Type 0} → AnyNode T → Note
any_recorded (Source n) = Nothing
any_recorded (Plain n) = Nothing
any_recorded (Several n) = several_recorded n
any_recorded (PublishOn n) = Nothing
any_recorded (PublishOnEager n) = eager_recorded n
any_recorded (Window n) = Nothing
any_recorded (FlatMap n) = flat_recorded n
any_recorded (FlatMapDelay n) = flat_delay_recorded n
any_recorded (GroupBy n) = group_recorded n

-- what taking the offered signal out adds to what it recorded; only `publishOnEager` records its items as they go out
abbrev pub any_popping : {T : Type 0} → AnyNode T → Option Note
any_popping (Source n) = None
any_popping (Plain n) = None
any_popping (Several n) = None
any_popping (PublishOn n) = None
any_popping (PublishOnEager n) = eager_popping n
any_popping (Window n) = None
any_popping (FlatMap n) = None
any_popping (FlatMapDelay n) = None
any_popping (GroupBy n) = None

-- whether its ending was put out
abbrev pub any_ended : {T : Type 0} → AnyNode T → Bool
any_ended (Source n) = false
any_ended (Plain n) = plain_ended n
any_ended (Several n) = several_ended n
any_ended (PublishOn n) = publish_ended n
any_ended (PublishOnEager n) = eager_ended n
any_ended (Window n) = window_ended n
any_ended (FlatMap n) = flat_ended n
any_ended (FlatMapDelay n) = flat_delay_ended n
any_ended (GroupBy n) = group_ended n

-- whether it took the completion of an input and goes on; a plain operator and `publishOn` end by it
abbrev pub any_done : {T : Type 0} → AnyNode T → ℕ → Bool
any_done (Source n) i = false
any_done (Plain n) i = false
any_done (Several n) i = several_done n i
any_done (PublishOn n) i = false
any_done (PublishOnEager n) i = eager_done n i
any_done (Window n) i = window_done n i
any_done (FlatMap n) i = flat_done n i
any_done (FlatMapDelay n) i = flat_delay_done n i
any_done (GroupBy n) i = group_done n i

-- how many items came in and how many were sent
abbrev pub any_counted : {T : Type 0} → AnyNode T → List ℕ → ℕ → Type 0
any_counted (Source n) taken sent = source_counted n taken sent
any_counted (Plain n) taken sent = plain_counted n taken sent
any_counted (Several n) taken sent = several_counted n taken sent
any_counted (PublishOn n) taken sent = publish_counted n taken sent
any_counted (PublishOnEager n) taken sent = IsEagerCounted n taken sent
any_counted (Window n) taken sent = CountsItems n taken sent
any_counted (FlatMap n) taken sent = IsGoing n taken sent
any_counted (FlatMapDelay n) taken sent = flat_delay_counted n taken sent
any_counted (GroupBy n) taken sent = group_counted n taken sent

-- what is to be asked of an input
abbrev pub any_wanted : {T : Type 0} → AnyNode T → ℕ → ℕ → ℕ → ℕ
any_wanted (Source n) i a s = 0
any_wanted (Plain n) i a s = plain_wanted n i a s
any_wanted (Several n) i a s = several_wanted n i a s
any_wanted (PublishOn n) i a s = publish_wanted n i a s
any_wanted (PublishOnEager n) i a s = eager_wanted n i a s
any_wanted (Window n) i a s = window_wanted n i a s
any_wanted (FlatMap n) i a s = flat_wanted n i a s
any_wanted (FlatMapDelay n) i a s = flat_delay_wanted n i a s
any_wanted (GroupBy n) i a s = group_wanted n i a s

-- the second is the first without the signal that it offered
abbrev pub any_popped : {T : Type 0} → AnyNode T → Signal T → AnyNode T → Type 0
any_popped (Source a) s (Source b) = source_popped a s b
any_popped (Plain a) s (Plain b) = plain_popped a s b
any_popped (Several a) s (Several b) = several_popped a s b
any_popped (PublishOn a) s (PublishOn b) = publish_popped a s b
any_popped (PublishOnEager a) s (PublishOnEager b) = eager_popped a s b
any_popped (Window a) s (Window b) = IsPoppedWindow a s b
any_popped (FlatMap a) s (FlatMap b) = flat_popped a s b
any_popped (FlatMapDelay a) s (FlatMapDelay b) = flat_delay_popped a s b
any_popped (GroupBy a) s (GroupBy b) = IsPoppedGroup a s b
any_popped a s b = ⊥

-- how far it got in the hub that it reads
abbrev pub any_reads : {T : Type 0} → AnyNode T → Option Reading
any_reads (Source n) = source_reads n
any_reads (Plain n) = None
any_reads (Several n) = None
any_reads (PublishOn n) = None
any_reads (PublishOnEager n) = None
any_reads (Window n) = None
any_reads (FlatMap n) = None
any_reads (FlatMapDelay n) = None
any_reads (GroupBy n) = None

-- whether it has room for an item of that hub
abbrev pub any_rooms : {T : Type 0} → AnyNode T → Bool
any_rooms (Source n) = source_rooms n
any_rooms (Plain n) = false
any_rooms (Several n) = false
any_rooms (PublishOn n) = false
any_rooms (PublishOnEager n) = false
any_rooms (Window n) = false
any_rooms (FlatMap n) = false
any_rooms (FlatMapDelay n) = false
any_rooms (GroupBy n) = false

-- whether taking the offered signal out may allocate
abbrev pub any_pop_allocates : {T : Type 0} → Allocates → AnyNode T → Bool
any_pop_allocates a (Source n) = source_pop_allocates a n
any_pop_allocates a (Plain n) = false
any_pop_allocates a (Several n) = false
any_pop_allocates a (PublishOn n) = false
any_pop_allocates a (PublishOnEager n) = false
any_pop_allocates a (Window n) = false
any_pop_allocates a (FlatMap n) = false
any_pop_allocates a (FlatMapDelay n) = false
any_pop_allocates a (GroupBy n) = false

-- whether taking a signal in may allocate
abbrev pub any_signal_allocates : {T : Type 0} → Allocates → AnyNode T → Bool
any_signal_allocates a (Source n) = false
any_signal_allocates a (Plain n) = plain_allocates a n
any_signal_allocates a (Several n) = false
any_signal_allocates a (PublishOn n) = false
any_signal_allocates a (PublishOnEager n) = false
any_signal_allocates a (Window n) = true
any_signal_allocates a (FlatMap n) = true
any_signal_allocates a (FlatMapDelay n) = true
any_signal_allocates a (GroupBy n) = true

-- whether a pick or a row may allocate
abbrev pub any_step_allocates : {T : Type 0} → Allocates → AnyNode T → Bool
any_step_allocates a (Source n) = false
any_step_allocates a (Plain n) = false
any_step_allocates a (Several n) = several_step_allocates a n
any_step_allocates a (PublishOn n) = false
any_step_allocates a (PublishOnEager n) = false
any_step_allocates a (Window n) = false
any_step_allocates a (FlatMap n) = true
any_step_allocates a (FlatMapDelay n) = true
any_step_allocates a (GroupBy n) = true

-- the meaning of all kinds together
abbrev pub kind_machine : {T : Type 0} → Machine (AnyNode T) T
kind_machine = record {
  comes_out = any_comes_out;
  waiting = any_waiting;
  shown = any_shown;
  takes = any_takes;
  picks = any_picks;
  rows = any_rows;
  rowed = any_rowed;
  took = any_took;
  heard = λ n s new. ⊤;
  picked = any_picked;
  recording = any_recording;
  recorded = any_recorded;
  popping = any_popping;
  ended = any_ended;
  done = any_done;
  counted = any_counted;
  wanted = any_wanted;
  accepts = λ n a s. true;
  popped = any_popped;
  reads = any_reads;
  rooms = any_rooms;
  crosses = λ n. false;
  pop_allocates = any_pop_allocates;
  signal_allocates = any_signal_allocates;
  step_allocates = any_step_allocates;
}

-- a node of a tree
abbrev pub TreeNode : Type 0 → Type 0
TreeNode T = Sender (AnyNode T) T

-- its meaning: that of the node, or of the node with the queue of its edge
abbrev pub any_machine : {T : Type 0} → Machine (TreeNode T) T
any_machine = record {
  comes_out = sender_comes_out kind_machine;
  waiting = sender_waiting kind_machine;
  shown = sender_shown kind_machine;
  takes = sender_takes kind_machine;
  picks = sender_picks kind_machine;
  rows = sender_rows kind_machine;
  rowed = sender_rowed kind_machine;
  took = sender_took kind_machine;
  heard = sender_heard kind_machine;
  picked = sender_picked kind_machine;
  recording = sender_recording kind_machine;
  recorded = sender_recorded kind_machine;
  popping = sender_popping kind_machine;
  ended = sender_ended kind_machine;
  done = sender_done kind_machine;
  counted = sender_counted kind_machine;
  wanted = sender_wanted kind_machine;
  accepts = sender_accepts kind_machine;
  popped = sender_popped kind_machine;
  reads = sender_reads kind_machine;
  rooms = sender_rooms kind_machine;
  crosses = is_crossing;
  pop_allocates = sender_pop_allocates kind_machine;
  signal_allocates = sender_signal_allocates kind_machine;
  step_allocates = sender_step_allocates kind_machine;
}
