-- What no move of a tree changes: which calls of its nodes may allocate, where these of the caller's functions may, how far the nodes
-- got in the hubs that they read, and whether the edge of its root crosses.
use Rattle.std.specs.Prelude.{◌≡◌, ℕ, Bool, false, ◌||◌, List, Option}
use Rattle.rsx_sources.specs.Prelude.{Allocates, StaysAlike}
use Rattle.rsx_sources.specs.declared.machine.Machine.{Ghosts as Machine}
use Rattle.rsx_tree.specs.declared.inputs.Inputs.{Inputs, End, More'}
use Rattle.rsx_tree.specs.declared.node.Node.{Node}
use Rattle.rsx_tree.specs.Reads.{IsTreeReadAt, readings}

-- whether some call of a node may: taking a signal in, taking one out, a pick or a row
abbrev pub node_allocates : {M T : Type 0} → Machine M T → Allocates → M → Bool
node_allocates b a n = b.pop_allocates a n || (b.signal_allocates a n || b.step_allocates a n)

-- whether some call of one of these two nodes may
abbrev pub either_allocates : {M T : Type 0} → Machine M T → Allocates → M → M → Bool
either_allocates b a r n = node_allocates b a r || node_allocates b a n

-- whether some call of a node of a row, or below it, may
abbrev pub row_allocates : {M T : Type 0} → Machine M T → Allocates → Inputs M → Bool
row_allocates b a End = false
row_allocates b a (More' e n p below q beside) = node_allocates b a n || (row_allocates b a below || row_allocates b a beside)

-- whether some call of a node over this row, or of a node in it, may
abbrev pub over_allocates : {M T : Type 0} → Machine M T → Allocates → M → Inputs M → Bool
over_allocates b a r t = node_allocates b a r || row_allocates b a t

-- whether some call of a node of a tree may
abbrev pub tree_allocates : {M T : Type 0} → Machine M T → Allocates → Node M → Bool
tree_allocates b a t = over_allocates b a t.machine t.inputs

-- the same calls of a node may, its edge crosses where it did, and it got as far in the hub that it reads
abbrev pub IsNodeAlike : {M T : Type 0} → Machine M T → M → M → Type 0
IsNodeAlike b old new = StaysAlike b.reads b.crosses b.pop_allocates b.signal_allocates b.step_allocates old new

-- where no call of a tree's nodes may, none may later, whatever the caller's functions; the nodes that read a hub got as
-- far in it, or are behind an edge that isn't live any more; each node reads what it read, behind such an edge, too; and the
-- edge of the root crosses where it did
abbrev pub IsAlike : {M T : Type 0} → Machine M T → Node M → Node M → Type 0
IsAlike b old new =
    ((a : Allocates) → tree_allocates b a new ≡ tree_allocates b a old)
    × ((counts : List (Option ℕ)) → IsTreeReadAt b counts old → IsTreeReadAt b counts new)
    × (readings b new ≡ readings b old)
    × (b.crosses new.machine ≡ b.crosses old.machine)
