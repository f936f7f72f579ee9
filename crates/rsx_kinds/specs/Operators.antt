-- Which operator a node is.
use Rattle.rsx_kinds.specs.Any.{TreeNode}
use Rattle.rsx_kinds.specs.declared.any_node.AnyNode.{AnyNode}
use Rattle.rsx_kinds.specs.declared.any_node.AnyNode.TheVariants as any
use Rattle.rsx_kinds.specs.declared.several_node.SeveralNode.{SeveralNode}
use Rattle.rsx_kinds.specs.declared.several_node.SeveralNode.TheVariants as several
use Rattle.rsx_kinds.specs.declared.source_node.SourceNode.{SourceNode}
use Rattle.rsx_kinds.specs.declared.source_node.SourceNode.TheVariants as source
use Rattle.rsx_plain.specs.declared.state.PlainState.{PlainState}
use Rattle.rsx_plain.specs.declared.state.PlainState.TheVariants as plain
use Rattle.rsx_queued.specs.declared.sender.Sender.TheVariants.{Direct, Crossing}
use Rattle.rsx_waits.specs.declared.operator.Operator.{Operator}
use Rattle.rsx_waits.specs.declared.operator.Operator.TheVariants as operator

-- which source a node is
abbrev pub source_operator : {T : Type 0} → SourceNode T → Operator
source_operator (source.Items n) = operator.Items
source_operator (source.Range n) = operator.Range
source_operator (source.Hub n) = operator.Hub

-- which plain operator it is
abbrev pub plain_operator : {T : Type 0} → PlainState T → Operator
plain_operator (plain.Map f) = operator.Map
plain_operator (plain.Filter f d) = operator.Filter
plain_operator (plain.Take c l) = operator.Take
plain_operator (plain.Scan f l) = operator.Scan
plain_operator (plain.Buffer s g) = operator.Buffer
plain_operator (plain.Distinct f k r) = operator.Distinct

-- which operator of several inputs a node is
abbrev pub several_operator : {T : Type 0} → SeveralNode T → Operator
several_operator (several.Concat n) = operator.Concat
several_operator (several.Merge n) = operator.Merge
several_operator (several.MergeDelay n) = operator.MergeDelay
several_operator (several.Zip n) = operator.Zip
several_operator (several.Latest n) = operator.CombineLatest

-- which operator a node of any kind is
abbrev pub any_operator : {T : Type 0} → AnyNode T → Operator
any_operator (any.Source n) = source_operator n
any_operator (any.Plain n) = plain_operator n.state
any_operator (any.Several n) = several_operator n
any_operator (any.PublishOn n) = operator.PublishOn
any_operator (any.PublishOnEager n) = operator.PublishOnEager
any_operator (any.Window n) = operator.Window
any_operator (any.FlatMap n) = operator.FlatMap
any_operator (any.FlatMapDelay n) = operator.FlatMapDelay
any_operator (any.GroupBy n) = operator.GroupBy

-- which operator a node of a tree is, with the queue of its edge or without
abbrev pub operator_of : {T : Type 0} → TreeNode T → Operator
operator_of (Direct n) = any_operator n
operator_of (Crossing q) = any_operator q.node
