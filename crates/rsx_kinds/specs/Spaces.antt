-- For how many items of the hub that it reads a node of any kind has room at once.
use Rattle.std.specs.Prelude.{ℕ}
use Rattle.rsx_hub.specs.Leaf.{leaf_spaces}
use Rattle.rsx_kinds.specs.declared.any_node.AnyNode.{AnyNode}
use Rattle.rsx_kinds.specs.declared.any_node.AnyNode.TheVariants.{Source, Plain, Several, PublishOn, PublishOnEager, Window, FlatMap, FlatMapDelay, GroupBy}
use Rattle.rsx_kinds.specs.declared.source_node.SourceNode.{SourceNode}
use Rattle.rsx_kinds.specs.declared.source_node.SourceNode.TheVariants.{Items, Range, Hub}

-- of a source; only one that reads a hub has any
abbrev pub source_spaces : {T : Type 0} → SourceNode T → ℕ
source_spaces (Items n) = 0
source_spaces (Range n) = 0
source_spaces (Hub n) = leaf_spaces n

-- of a node of any kind; only a source has any
abbrev pub any_spaces : {T : Type 0} → AnyNode T → ℕ
any_spaces (Source n) = source_spaces n
any_spaces (Plain n) = 0
any_spaces (Several n) = 0
any_spaces (PublishOn n) = 0
any_spaces (PublishOnEager n) = 0
any_spaces (Window n) = 0
any_spaces (FlatMap n) = 0
any_spaces (FlatMapDelay n) = 0
any_spaces (GroupBy n) = 0
