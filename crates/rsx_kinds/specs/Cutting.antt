-- The queue of a node's edge, taken off it and put there again, and the node that reads a hub or a link.
use Rattle.std.specs.Prelude.{ℕ, Bool, List, Option, Some, None}
use Rattle.rsx_sources.specs.Prelude.{Ending, Open, Done, Failed, Reading}
use Rattle.rsx_queued.specs.declared.sender.Sender.{Sender}
use Rattle.rsx_queued.specs.declared.sender.Sender.TheVariants.{Direct, Crossing}
use Rattle.rsx_queued.specs.declared.tail.Tail.{Tail}
use Rattle.rsx_queued.specs.declared.tail.Tail.TheVariants.{Open as TailOpen, Completion, Failure, Taken}
use Rattle.rsx_kinds.specs.Any.{TreeNode, any_machine}
use Rattle.rsx_kinds.specs.declared.any_node.AnyNode.{AnyNode}
use Rattle.rsx_kinds.specs.declared.any_node.AnyNode.TheVariants.{Source, Plain, Several, PublishOn, PublishOnEager, Window, FlatMap, FlatMapDelay, GroupBy}
use Rattle.rsx_kinds.specs.declared.source_node.SourceNode.{SourceNode}
use Rattle.rsx_kinds.specs.declared.source_node.SourceNode.TheVariants.{Items, Range, Hub}

-- the items, where no ending is behind them or was
abbrev pub unended : {T : Type 0} → Tail → List T → Option (List T)
unended TailOpen q = Some q
unended Completion q = None
unended (Failure c) q = None
unended Taken q = None

-- the items in the queue of a node's edge, where no ending is in the queue
abbrev pub queue_of : {M T : Type 0} → Sender M T → Option (List T)
queue_of (Direct n) = None
queue_of (Crossing x) = unended x.tail x.queue

-- the node with a queue of these items and this tail at its edge, where the edge doesn't cross
abbrev pub with_tail : {M T : Type 0} → Tail → List T → Sender M T → Sender M T
with_tail t q (Direct n) = Crossing (record { node = n; queue = q; tail = t })
with_tail t q (Crossing x) = Crossing x

-- the node with a queue of these items at its edge, where the edge doesn't cross
abbrev pub with_queue : {M T : Type 0} → List T → Sender M T → Sender M T
with_queue q n = with_tail TailOpen q n

-- the tail of a queue with this ending in it
abbrev pub tail_of : Ending → Tail
tail_of Open = TailOpen
tail_of Done = Completion
tail_of (Failed c) = Failure c

-- the node with a queue of these items at its edge, and this ending behind them, where the edge doesn't cross
abbrev pub with_ended_queue : {M T : Type 0} → Ending → List T → Sender M T → Sender M T
with_ended_queue e q n = with_tail (tail_of e) q n

-- the items that a node holds whose source is a hub
abbrev pub source_held : {T : Type 0} → SourceNode T → Option (List T)
source_held (Items n) = None
source_held (Range n) = None
source_held (Hub n) = Some n.queue

abbrev pub kind_held : {T : Type 0} → AnyNode T → Option (List T)
kind_held (Source n) = source_held n
kind_held (Plain n) = None
kind_held (Several n) = None
kind_held (PublishOn n) = None
kind_held (PublishOnEager n) = None
kind_held (Window n) = None
kind_held (FlatMap n) = None
kind_held (FlatMapDelay n) = None
kind_held (GroupBy n) = None

abbrev pub node_held : {T : Type 0} → TreeNode T → Option (List T)
node_held (Direct n) = kind_held n
node_held (Crossing x) = None

-- the ending that a node took in whose source is a hub
abbrev pub taken_in : Ending → Option Ending
taken_in Open = None
taken_in Done = Some Done
taken_in (Failed c) = Some (Failed c)

abbrev pub source_read_to : {T : Type 0} → SourceNode T → Option Ending
source_read_to (Items n) = None
source_read_to (Range n) = None
source_read_to (Hub n) = taken_in n.ending

abbrev pub kind_read_to : {T : Type 0} → AnyNode T → Option Ending
kind_read_to (Source n) = source_read_to n
kind_read_to (Plain n) = None
kind_read_to (Several n) = None
kind_read_to (PublishOn n) = None
kind_read_to (PublishOnEager n) = None
kind_read_to (Window n) = None
kind_read_to (FlatMap n) = None
kind_read_to (FlatMapDelay n) = None
kind_read_to (GroupBy n) = None

abbrev pub node_read_to : {T : Type 0} → TreeNode T → Option Ending
node_read_to (Direct n) = kind_read_to n
node_read_to (Crossing x) = None

-- what a node of a tree reads, whether it has ended, and its counts
abbrev pub node_reads : {T : Type 0} → TreeNode T → Option Reading
node_reads n = any_machine.reads n

abbrev pub node_ended : {T : Type 0} → TreeNode T → Bool
node_ended n = any_machine.ended n

abbrev pub node_counted : {T : Type 0} → TreeNode T → List ℕ → ℕ → Type 0
node_counted n taken sent = any_machine.counted n taken sent
