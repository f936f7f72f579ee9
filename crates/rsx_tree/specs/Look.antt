-- Which enabled move of a row, or of a tree, a look answers.
use Rattle.std.specs.Prelude.{◌≡◌, ℕ, ◌+◌, ◌<◌, ◌^◌, true, Some}
use Rattle.rsx_types.specs.Meaning.{Meaning}
use Rattle.rsx_sources.specs.declared.machine.Machine.{Ghosts as Machine}
use Rattle.rsx_tree.specs.declared.edge.Edge.{Edge}
use Rattle.rsx_tree.specs.declared.inputs.Inputs.{Inputs}
use Rattle.rsx_tree.specs.declared.look.NodeMove.{NodeMove}
use Rattle.rsx_tree.specs.declared.look.NodeMove.TheVariants.{Ask, Send, Pick, Row}
use Rattle.rsx_tree.specs.declared.node.Node.{Node}
use Rattle.rsx_tree.specs.Edges.{edge_view}
use Rattle.rsx_tree.specs.Inputs.{size, place, can_ask_in, can_ask_over, can_send_in, can_send_over}
use Rattle.rsx_tree.specs.Stepped.{Station, station, over, can_pick_in, can_row_in}
use Rattle.rsx_tree.specs.Tree.{can_ask, can_send}

-- a pick or a row of this node, which has the number `at`, that is enabled
abbrev pub IsStepEnabled : {M T : Type 0} → Machine M T → Station M → ℕ → NodeMove → Type 0
IsStepEnabled b s at (Ask n) = ⊥
IsStepEnabled b s at (Send n) = ⊥
IsStepEnabled b s at (Pick n input) = (n ≡ at) × (input < 2 ^ 64) × (can_pick_in b input (Some s) ≡ true)
IsStepEnabled b s at (Row n) = (n ≡ at) × (can_row_in b (Some s) ≡ true)

-- a move over this edge, or of its sender, that is enabled; the sender has the number `at`
abbrev pub IsEnabledOver : {M T : Type 0} → Machine M T → Meaning T → M → ℕ → ℕ → ℕ → Edge → M → ℕ → NodeMove → Type 0
IsEnabledOver b m r i asked sent e n at (Ask k) = (k ≡ at) × (can_ask_over b r i asked sent (edge_view e) n ≡ true)
IsEnabledOver b m r i asked sent e n at (Send k) = (k ≡ at) × (can_send_over b m r i (edge_view e) n ≡ true)
IsEnabledOver b m r i asked sent e n at (Pick k input) = IsStepEnabled b (over e n) at (Pick k input)
IsEnabledOver b m r i asked sent e n at (Row k) = IsStepEnabled b (over e n) at (Row k)

-- a move of this row that is enabled, where the row's first node has the number `first`
abbrev pub IsEnabledIn : {M T : Type 0} → Machine M T → Meaning T → M → ℕ → ℕ → ℕ → Inputs M → ℕ → NodeMove → Type 0
IsEnabledIn b m r i asked sent t first (Ask n) = (at : ℕ) × (at < size t) × (n ≡ first + at) × (n < 2 ^ 32) × (can_ask_in b (place r i asked sent t at) ≡ true)
IsEnabledIn b m r i asked sent t first (Send n) = (at : ℕ) × (at < size t) × (n ≡ first + at) × (n < 2 ^ 32) × (can_send_in b m (place r i asked sent t at) ≡ true)
IsEnabledIn b m r i asked sent t first (Pick n input) = (at : ℕ) × (at < size t) × (n ≡ first + at) × (n < 2 ^ 32) × (input < 2 ^ 64) × (can_pick_in b input (station t at) ≡ true)
IsEnabledIn b m r i asked sent t first (Row n) = (at : ℕ) × (at < size t) × (n ≡ first + at) × (n < 2 ^ 32) × (can_row_in b (station t at) ≡ true)

-- a move below the root of this tree that is enabled, where the first node there has the number `first`
abbrev pub IsEnabledAt : {M T : Type 0} → Machine M T → Meaning T → Node M → ℕ → ℕ → ℕ → NodeMove → Type 0
IsEnabledAt b m t asked sent first (Ask n) = (at : ℕ) × (at < size t.inputs) × (n ≡ first + at) × (n < 2 ^ 32) × (can_ask b t at asked sent ≡ true)
IsEnabledAt b m t asked sent first (Send n) = (at : ℕ) × (at < size t.inputs) × (n ≡ first + at) × (n < 2 ^ 32) × (can_send b m t at ≡ true)
IsEnabledAt b m t asked sent first (Pick n input) = (at : ℕ) × (at < size t.inputs) × (n ≡ first + at) × (n < 2 ^ 32) × (input < 2 ^ 64) × (can_pick_in b input (station t.inputs at) ≡ true)
IsEnabledAt b m t asked sent first (Row n) = (at : ℕ) × (at < size t.inputs) × (n ≡ first + at) × (n < 2 ^ 32) × (can_row_in b (station t.inputs at) ≡ true)
