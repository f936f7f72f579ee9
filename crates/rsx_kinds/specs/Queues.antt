-- How many signals wait in the queues of a node. A flatMap and a groupBy have no queue for their input: what comes in there goes
-- into lanes at once.
use Rattle.std.specs.Prelude.{ℕ, ◌+◌, length, Option, Some, None}
use Rattle.rsx_combining.specs.Latest.{latest_queued}
use Rattle.rsx_combining.specs.Zip.{zip_queued}
use Rattle.rsx_delayed.specs.MergeDelay.{delayed_queued}
use Rattle.rsx_delayed.specs.PublishOnEager.{eager_queued}
use Rattle.rsx_grouping.specs.Rows.{waiting_after as grouped_after}
use Rattle.rsx_kinds.specs.Any.{TreeNode}
use Rattle.rsx_kinds.specs.declared.any_node.AnyNode.{AnyNode}
use Rattle.rsx_kinds.specs.declared.any_node.AnyNode.TheVariants as any
use Rattle.rsx_kinds.specs.declared.several_node.SeveralNode.{SeveralNode}
use Rattle.rsx_kinds.specs.declared.several_node.SeveralNode.TheVariants as several
use Rattle.rsx_merging.specs.Lanes.{waiting_after}
use Rattle.rsx_merging.specs.Merge.{merge_queued}
use Rattle.rsx_merging.specs.PublishOn.{publish_queued}
use Rattle.rsx_queued.specs.Held.{tail_count}
use Rattle.rsx_queued.specs.declared.queued.Queued.{Queued}
use Rattle.rsx_queued.specs.declared.sender.Sender.TheVariants.{Direct, Crossing}

-- in a node of several inputs, how many signals of an input wait
abbrev pub several_queued : {T : Type 0} → SeveralNode T → ℕ → Option ℕ
several_queued (several.Concat n) i = None
several_queued (several.Merge n) i = merge_queued n i
several_queued (several.MergeDelay n) i = delayed_queued n i
several_queued (several.Zip n) i = zip_queued n i
several_queued (several.Latest n) i = latest_queued n i

-- in a node of any kind
abbrev pub any_queued : {T : Type 0} → AnyNode T → ℕ → Option ℕ
any_queued (any.Source n) i = None
any_queued (any.Plain n) i = None
any_queued (any.Several n) i = several_queued n i
any_queued (any.PublishOn n) i = publish_queued n i
any_queued (any.PublishOnEager n) i = eager_queued n i
any_queued (any.Window n) i = None
any_queued (any.FlatMap n) i = None
any_queued (any.FlatMapDelay n) i = None
any_queued (any.GroupBy n) i = None

-- in a node of a tree; the queue of its edge is for what it sends, and no input's
abbrev pub queued_of : {T : Type 0} → TreeNode T → ℕ → Option ℕ
queued_of (Direct n) i = any_queued n i
queued_of (Crossing q) i = any_queued q.node i

-- in the queue of an edge that crosses
abbrev pub waiting_behind : {M T : Type 0} → Queued M T → ℕ
waiting_behind q = length q.queue + tail_count q.tail

abbrev pub crossing_of : {T : Type 0} → TreeNode T → Option ℕ
crossing_of (Direct n) = None
crossing_of (Crossing q) = Some (waiting_behind q)

-- how many items wait in the lanes of a node
abbrev pub any_lanes : {T : Type 0} → AnyNode T → Option ℕ
any_lanes (any.Source n) = None
any_lanes (any.Plain n) = None
any_lanes (any.Several n) = None
any_lanes (any.PublishOn n) = None
any_lanes (any.PublishOnEager n) = None
any_lanes (any.Window n) = None
any_lanes (any.FlatMap n) = Some (waiting_after 0 n.lanes)
any_lanes (any.FlatMapDelay n) = Some (waiting_after 0 n.flat.lanes)
any_lanes (any.GroupBy n) = Some (grouped_after 0 n.table)

abbrev pub lanes_of : {T : Type 0} → TreeNode T → Option ℕ
lanes_of (Direct n) = any_lanes n
lanes_of (Crossing q) = any_lanes q.node
