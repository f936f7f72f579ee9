-- A node that reads a hub and has no room for an item of it offers something; one with the queue of its edge does where it can make
-- no step, though more is asked over that edge than it sent.
use Rattle.std.proofs.Common.{◌≡◌, ◌<◌, ℕ, false, Some, None}
use Rattle.rsx_hub.specs.declared.TheConstants.{MOST_ACCEPTED}
use Rattle.rsx_hub.proofs.Leaves.{leaf_full}
use Rattle.rsx_kinds.specs.Any.{TreeNode, any_machine, any_reads, any_rooms, any_waiting, kind_machine}
use Rattle.rsx_kinds.specs.Laws.{any_shows}
use Rattle.rsx_kinds.specs.SenderRests.{sender_full}
use Rattle.rsx_kinds.specs.Source.{source_reads, source_rooms, source_waiting}
use Rattle.rsx_kinds.specs.declared.any_node.AnyNode.{AnyNode}
use Rattle.rsx_kinds.specs.declared.any_node.AnyNode.TheVariants.{Source, Plain, Several, PublishOn, PublishOnEager, Window, FlatMap, FlatMapDelay, GroupBy}
use Rattle.rsx_kinds.specs.declared.source_node.SourceNode.{SourceNode}
use Rattle.rsx_kinds.specs.declared.source_node.SourceNode.TheVariants.{Items, Range, Hub}
use Rattle.rsx_sources.specs.Prelude.{Reading, Meaning}
use Rattle.rsx_tree.specs.Rests.{IsStuck}

source_full : {T : Type 0} (m : Meaning T) (n : SourceNode T) (r : Reading) → source_reads n ≡ Some r → source_rooms n ≡ false → r.reached < MOST_ACCEPTED → source_waiting m n ≡ None → ⊥
source_full m (Items n) r reads full less none = cc
source_full m (Range n) r reads full less none = cc
source_full m (Hub n) r reads full less none = leaf_full m n r reads full less none

-- as long as it has not taken in as many items as there may be
kind_full : {T : Type 0} (m : Meaning T) (n : AnyNode T) (r : Reading) → any_reads n ≡ Some r → any_rooms n ≡ false → r.reached < MOST_ACCEPTED → any_waiting m n ≡ None → ⊥
kind_full m (Source n) r reads full less none = source_full m n r reads full less none
kind_full m (Plain n) r reads full less none = cc
kind_full m (Several n) r reads full less none = cc
kind_full m (PublishOn n) r reads full less none = cc
kind_full m (PublishOnEager n) r reads full less none = cc
kind_full m (Window n) r reads full less none = cc
kind_full m (FlatMap n) r reads full less none = cc
kind_full m (FlatMapDelay n) r reads full less none = cc
kind_full m (GroupBy n) r reads full less none = cc

-- so it is with a node of a tree
pub any_full : {T : Type 0} (m : Meaning T) (n : TreeNode T) (r : Reading) (asked sent : ℕ) → any_machine.reads n ≡ Some r → any_machine.rooms n ≡ false → r.reached < MOST_ACCEPTED → any_machine.waiting m n ≡ None → sent < asked → IsStuck any_machine.picks any_machine.rows n asked sent → ⊥
any_full m n r asked sent reads full less none more stuck = sender_full kind_machine m (any_shows m) (kind_full m) n r asked sent reads full less none more stuck
