-- What the parts of a tree are made of.
use Rattle.std.specs.Prelude.{◌≡◌, ◌⊎◌, ◌≤◌, ◌<◌, ℕ, Bool, false, ◌||◌, List, [], ◌∷◌, Result, Ok}
use Rattle.std.proofs.Math.ListN.{replicate}
use Rattle.rsx_sources.specs.Prelude.{Stage, NoMemory, Incoming, quiet as quiet_at, Meaning, Note}
use Rattle.rsx_plain.specs.State.{plain_start}
use Rattle.rsx_plain.specs.Node.{GivesOperator, start_slot}
use Rattle.rsx_plain.specs.declared.node.PlainNode.{PlainNode}
use Rattle.rsx_kinds.specs.Kind.{GivesKind, first_wanted, recorded_first}
use Rattle.rsx_kinds.specs.Several.{several_counted, several_ended, several_recorded, several_wanted}
use Rattle.rsx_kinds.specs.declared.kind.SeveralKind.{SeveralKind}
use Rattle.rsx_kinds.specs.declared.several_node.SeveralNode.{SeveralNode}
use Rattle.rsx_queued.specs.Input.{fresh_input}
use Rattle.rsx_queued.specs.Inputs.{picked}
use Rattle.rsx_merging.specs.PublishOn.{publish_comes_out, publish_counted}
use Rattle.rsx_merging.specs.declared.publish_on_node.PublishOnNode.{PublishOnNode}
use Rattle.rsx_window.specs.Window.{GivesWindows, CountsItems}
use Rattle.rsx_window.specs.declared.node.WindowNode.{WindowNode}
use Rattle.rsx_queued.specs.declared.output.Output.TheVariants.{Empty}
use Rattle.rsx_delayed.specs.FlatMapDelay.{GivesFlatMapDelay, flat_delay_counted}
use Rattle.rsx_delayed.specs.declared.flat_map_delay_node.FlatMapDelayNode.{FlatMapDelayNode}
use Rattle.rsx_delayed.specs.PublishOnEager.{IsEagerCounted, eager_comes_out}
use Rattle.rsx_delayed.specs.declared.publish_on_eager_node.Chosen.TheVariants as Chosen
use Rattle.rsx_delayed.specs.declared.publish_on_eager_node.PublishOnEagerNode.{PublishOnEagerNode}
use Rattle.rsx_values.specs.Eager.{eager_of}
use Rattle.rsx_merging.specs.FlatMap.{GivesFlatMap, IsGoing}
use Rattle.rsx_merging.specs.declared.flat_map_node.FlatMapNode.{FlatMapNode}
use Rattle.rsx_grouping.specs.GroupBy.{GivesGroups, group_counted, group_ended}
use Rattle.rsx_grouping.specs.declared.node.GroupByNode.{GroupByNode}
use Rattle.rsx_tree.specs.Prelude.{closed_row_if, IsJoined}
use Rattle.rsx_tree.specs.declared.inputs.Inputs.{Inputs, End}
use Rattle.rsx_tree.specs.declared.node.Node.{Node}
use Rattle.rsx_queued.specs.declared.queued.Queued.{Queued}
use Rattle.rsx_queued.specs.declared.sender.Sender.TheVariants.{Direct, Crossing}
use Rattle.rsx_queued.specs.declared.tail.Tail.TheVariants.{Open}
use Rattle.rsx_kinds.specs.Any.{TreeNode}
use Rattle.rsx_kinds.specs.Crossings.{is_crossing}
use Rattle.rsx_kinds.specs.declared.any_node.AnyNode.{AnyNode}
use Rattle.rsx_kinds.specs.declared.any_node.AnyNode.TheVariants.{Plain, Several, PublishOn, PublishOnEager, Window, FlatMap, FlatMapDelay, GroupBy}

-- a fresh plain operator as a node of any kind
pub record IsPlain {T : Type 0} (g : Stage T) (n : AnyNode T) : Type 0 where
  pub node : PlainNode T
  pub is : n ≡ Plain node
  pub fresh : GivesOperator node g
  pub state : node.state ≡ plain_start g
  pub slot : node.slot ≡ start_slot g

-- a fresh node of several inputs as a node of any kind
pub record IsSeveral {T : Type 0} (kind : SeveralKind) (count : ℕ) (n : AnyNode T) : Type 0 where
  pub node : SeveralNode T
  pub is : n ≡ Several node
  pub fresh : GivesKind node kind count
  pub recorded : several_recorded node ≡ recorded_first kind
  pub ended : 1 ≤ count → several_ended node ≡ false
  pub counted : 1 ≤ count → several_counted node (replicate count 0) 0
  pub wanted : (i asked : ℕ) → i < count → several_wanted node i asked 0 ≡ first_wanted kind i asked

-- a fresh `publishOn` as a node of any kind
pub record IsPublishOn {T : Type 0} (capacity : ℕ) (n : AnyNode T) : Type 0 where
  pub node : PublishOnNode T
  pub is : n ≡ PublishOn node
  pub input : node.input ≡ fresh_input capacity
  pub fresh : (m : Meaning T) (inc : Incoming T) (further : Note) → publish_comes_out m node inc further ≡ quiet_at further inc.first
  pub counted : publish_counted node (0 ∷ []) 0

-- a fresh `publishOnEager` as a node of any kind
pub record IsPublishOnEager {T : Type 0} (capacity : ℕ) (n : AnyNode T) : Type 0 where
  pub node : PublishOnEagerNode T
  pub is : n ≡ PublishOnEager node
  pub input : node.held.input ≡ fresh_input capacity
  pub chosen : node.chosen ≡ Chosen.Nothing
  pub fresh : (m : Meaning T) (inc : Incoming T) (further : Note) → eager_comes_out m node inc further ≡ picked further (λ cs. eager_of cs inc.first)
  pub counted : IsEagerCounted node (0 ∷ []) 0
  pub choices : node.choices ≡ []

-- a fresh `window` as a node of any kind
pub record IsWindow {T : Type 0} (size : ℕ) (gs : List (Stage T)) (n : AnyNode T) : Type 0 where
  pub node : WindowNode T
  pub is : n ≡ Window node
  pub fresh : GivesWindows node size gs
  pub counted : CountsItems node (0 ∷ []) 0
  pub nothing : node.pending.left ≡ []

-- a fresh `groupBy` as a node of any kind
pub record IsGroupBy {T : Type 0} (f : ℕ) (gs : List (Stage T)) (n : AnyNode T) : Type 0 where
  pub node : GroupByNode T
  pub is : n ≡ GroupBy node
  pub fresh : GivesGroups node f gs
  pub ended : group_ended node ≡ false
  pub counted : group_counted node (0 ∷ []) 0
  pub choices : node.choices ≡ []

-- a fresh `flatMap` as a node of any kind
pub record IsFlatMap {T : Type 0} (f concurrency : ℕ) (gs : List (Stage T)) (n : AnyNode T) : Type 0 where
  pub node : FlatMapNode T
  pub is : n ≡ FlatMap node
  pub fresh : GivesFlatMap node f gs
  pub counted : 1 ≤ concurrency → IsGoing node (0 ∷ []) 0
  pub at_most : node.concurrency ≡ concurrency
  pub choices : node.choices ≡ []
  pub next : node.next ≡ 0
  pub nothing : node.output ≡ Empty

-- a fresh `flatMapDelayError` as a node of any kind
pub record IsFlatMapDelay {T : Type 0} (f concurrency : ℕ) (gs : List (Stage T)) (n : AnyNode T) : Type 0 where
  pub node : FlatMapDelayNode T
  pub is : n ≡ FlatMapDelay node
  pub fresh : GivesFlatMapDelay node f gs
  pub counted : 1 ≤ concurrency → flat_delay_counted node (0 ∷ []) 0
  pub at_most : node.flat.concurrency ≡ concurrency
  pub choices : node.flat.choices ≡ []
  pub next : node.flat.next ≡ 0
  pub nothing : node.flat.output ≡ Empty

-- the tree of the node that was made, over this row
pub record IsOver {T : Type 0} (made : Result (AnyNode T) NoMemory) (row : Inputs (TreeNode T)) (has_ended : Bool) (t : Node (TreeNode T)) : Type 0 where
  pub node : AnyNode T
  pub is : made ≡ Ok node
  pub machine : t.machine ≡ Direct node
  pub inputs : t.inputs ≡ closed_row_if has_ended row

-- the tree of the node that was made, over this one as its only input
pub record IsOverOne {T : Type 0} (made : Result (AnyNode T) NoMemory) (below t : Node (TreeNode T)) : Type 0 where
  pub node : AnyNode T
  pub is : made ≡ Ok node
  pub machine : t.machine ≡ Direct node
  pub row : Inputs (TreeNode T)
  pub joined : IsJoined below End row
  pub inputs : t.inputs ≡ row

-- the second tree is the first with an empty queue behind its root
pub record IsQueuedRoot {T : Type 0} (old new : Node (TreeNode T)) : Type 0 where
  pub node : AnyNode T
  pub queued : Queued (AnyNode T) T
  pub was : old.machine ≡ Direct node
  pub machine : new.machine ≡ Crossing queued
  pub inside : queued.node ≡ node
  pub empty : queued.queue ≡ []
  pub still : queued.tail ≡ Open
  pub inputs : new.inputs ≡ old.inputs

-- the tree that was made, whose root has the queue of its edge where that crosses to another region
pub record IsCrossed {T : Type 0} (made : Result (Node (TreeNode T)) NoMemory) (crosses : Bool) (t : Node (TreeNode T)) : Type 0 where
  pub tree : Node (TreeNode T)
  pub is : made ≡ Ok tree
  pub either : (t ≡ tree) ⊎ IsQueuedRoot tree t
  pub crossed : is_crossing t.machine ≡ crosses || is_crossing tree.machine

-- the tree that was made, as an input in front of those beside it
pub record IsInFront {M : Type 0} (made : Result (Node M) NoMemory) (beside row : Inputs M) : Type 0 where
  pub tree : Node M
  pub is : made ≡ Ok tree
  pub joined : IsJoined tree beside row
