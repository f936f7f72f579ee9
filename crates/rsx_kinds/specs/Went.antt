-- What nodes of any kind are after a batch.
use Rattle.std.specs.Prelude.{◌≡◌, ℕ, if◌then◌else◌}
use Rattle.rsx_rooted.specs.Went.{leaf_went, plain_went, range_went}
use Rattle.rsx_rooted.specs.declared.batch.After.{After}
use Rattle.rsx_rooted.specs.declared.batch.After.TheVariants.{Plain as PlainAfter, Counted, Picked, Latest as LatestAfter, Gave}
use Rattle.rsx_rooted.specs.declared.batch.Noted.{Noted}
use Rattle.rsx_merging.specs.Concat.{after_all_passed}
use Rattle.rsx_combining.specs.Latest.{LatestState}
use Rattle.rsx_combining.specs.LatestRows.{rows_counted, rows_through}
use Rattle.rsx_merging.specs.Merge.{after_all_merged, merges_through}
use Rattle.rsx_merging.specs.declared.concat_node.ConcatNode.{ConcatNode}
use Rattle.rsx_merging.specs.declared.merge_node.MergeNode.{MergeNode}
use Rattle.rsx_kinds.specs.declared.any_node.AnyNode.{AnyNode}
use Rattle.rsx_kinds.specs.declared.any_node.AnyNode.TheVariants.{Source, Plain, Several}
use Rattle.rsx_kinds.specs.declared.several_node.SeveralNode.{SeveralNode}
use Rattle.rsx_kinds.specs.declared.several_node.SeveralNode.TheVariants.{Concat, Merge, Latest}
use Rattle.rsx_kinds.specs.declared.source_node.SourceNode.{SourceNode}
use Rattle.rsx_kinds.specs.declared.source_node.SourceNode.TheVariants.{Range, Hub}

-- a source: a range, or a node that reads a hub, went on as it noted
abbrev pub source_went : {T : Type 0} → SourceNode T → Noted T → SourceNode T → Type 0
source_went (Range n) noted (Range k) = range_went n noted.after k
source_went (Range n) noted new = ⊥
source_went (Hub n) noted (Hub k) = leaf_went n noted.after k
source_went (Hub n) noted new = ⊥
source_went old noted new = new ≡ old

-- a concat counted the items that it took, so many
abbrev pub concat_after : {T : Type 0} → ConcatNode T → ℕ → After T → ConcatNode T
concat_after n took (PlainAfter k) = n
concat_after n took Counted = after_all_passed n took
concat_after n took (Picked i) = n
concat_after n took (LatestAfter i x) = n
concat_after n took (Gave k) = n

-- a merge took in so many items of an input and picked them, where they can go through it
abbrev pub merge_after : {T : Type 0} → MergeNode T → ℕ → After T → MergeNode T
merge_after n took (Picked i) = if merges_through n i took then after_all_merged n i took else n
merge_after n took (PlainAfter k) = n
merge_after n took Counted = n
merge_after n took (LatestAfter i x) = n
merge_after n took (Gave k) = n

-- so did a combineLatest, and it keeps the last of them
abbrev pub latest_after : {T : Type 0} → LatestState T → ℕ → After T → LatestState T
latest_after n took (LatestAfter i x) = if rows_through n i took then rows_counted n i took x else n
latest_after n took (PlainAfter k) = n
latest_after n took Counted = n
latest_after n took (Picked i) = n
latest_after n took (Gave k) = n

-- a node of several inputs: a concat did, a merge, and a combineLatest
abbrev pub several_went : {T : Type 0} → SeveralNode T → Noted T → SeveralNode T → Type 0
several_went (Concat n) noted new = new ≡ Concat (concat_after n noted.took noted.after)
several_went (Merge n) noted new = new ≡ Merge (merge_after n noted.took noted.after)
several_went (Latest n) noted new = new ≡ Latest (latest_after n noted.took noted.after)
several_went old noted new = new ≡ old

-- a node of any kind: so did a plain operator, or a node of several inputs
abbrev pub any_went : {T : Type 0} → AnyNode T → Noted T → AnyNode T → Type 0
any_went (Source n) noted (Source k) = source_went n noted k
any_went (Plain n) noted (Plain k) = plain_went n noted.after k
any_went (Several n) noted (Several k) = several_went n noted k
any_went (Source n) noted new = ⊥
any_went (Plain n) noted new = ⊥
any_went (Several n) noted new = ⊥
any_went old noted new = new ≡ old
