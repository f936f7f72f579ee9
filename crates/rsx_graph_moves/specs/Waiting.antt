-- Which node of a tree waits for the hub that it reads.
use Rattle.std.specs.Prelude.{◌≡◌, ◌⊎◌, ℕ, zero, suc, ◌+◌, Bool, true, ◌&&◌, nat_lt, Some, option_map, is_none}
use Rattle.rsx_sources.specs.Reading.{hub_of}
use Rattle.rsx_sources.specs.declared.machine.Machine.{Ghosts as Machine}
use Rattle.rsx_tree.specs.declared.edge.Edge.{Edge}
use Rattle.rsx_tree.specs.declared.inputs.Inputs.{Inputs, End, More'}
use Rattle.rsx_tree.specs.declared.node.Node.{Node}
use Rattle.rsx_tree.specs.Edges.{is_live}
use Rattle.rsx_tree.specs.Inputs.{size}
use Rattle.rsx_tree.specs.Stepped.{Station, over}
use Rattle.rsx_graph_moves.specs.declared.leaf.WaitingLeaf.{WaitingLeaf}

-- whether a node lacks a signal: its edge is live, more was asked over it than was sent, and the node offers nothing
abbrev pub lacks : {M T : Type 0} → Machine M T → Station M → Bool
lacks b s = is_live s.state && (nat_lt s.sent s.asked && is_none (b.shown s.machine))

-- it reads the hub with this number
abbrev pub Reads : {M T : Type 0} → Machine M T → M → ℕ → Type 0
Reads b n hub = option_map hub_of (b.reads n) ≡ Some hub

-- the node `at` of a row waits for this hub: it reads the hub, and it lacks a signal, and so does each node between it and the
-- row's receiver
abbrev pub WaitsIn : {M T : Type 0} → Machine M T → Inputs M → ℕ → ℕ → Type 0
WaitsIn b End at hub = ⊥
WaitsIn b (More' e n p below q beside) at hub =
    ((at ≡ 0) × (lacks b (over e n) ≡ true) × Reads b n hub)
    ⊎ (((k : ℕ) × (at ≡ k + 1) × (lacks b (over e n) ≡ true) × WaitsIn b below k hub)
    ⊎ ((k : ℕ) × (at ≡ k + 1 + size below) × WaitsIn b beside k hub))

-- so does the node `at` of a tree, whose root has the number 0 and this edge
abbrev pub Waits : {M T : Type 0} → Machine M T → Edge → Node M → ℕ → ℕ → Type 0
Waits b root t zero hub = (lacks b (over root t.machine) ≡ true) × Reads b t.machine hub
Waits b root t (suc at) hub = (lacks b (over root t.machine) ≡ true) × WaitsIn b t.inputs at hub

-- such a node of a row, whose first node has the number `first`
abbrev pub IsLeafIn : {M T : Type 0} → Machine M T → Inputs M → ℕ → WaitingLeaf → Type 0
IsLeafIn b t first leaf = (at : ℕ) × (leaf.node ≡ first + at) × WaitsIn b t at leaf.hub

-- such a node of a tree
abbrev pub IsLeafOf : {M T : Type 0} → Machine M T → Edge → Node M → WaitingLeaf → Type 0
IsLeafOf b root t leaf = Waits b root t leaf.node leaf.hub
