-- The counts along the edges of a tree: how much each node took in belongs to how much it sent.
use Rattle.std.specs.Prelude.{◌≡◌, ◌⊎◌, ⊤, ℕ, ◌+◌, ◌<◌, true, false, List, [], ◌∷◌}
use Rattle.rsx_demand.specs.declared.TheConstants.{UNBOUNDED}
use Rattle.rsx_sources.specs.Prelude.{Signal, Next, Complete, Error}
use Rattle.rsx_sources.specs.declared.machine.Machine.{Ghosts as Machine}
use Rattle.rsx_tree.specs.declared.edge.EdgeState.TheVariants.{Live}
use Rattle.rsx_tree.specs.declared.inputs.Inputs.{Inputs, End, More'}
use Rattle.rsx_tree.specs.declared.node.Node.{Node}

-- how many items went over each of the row's own edges
abbrev pub sent_over : {M : Type 0} → Inputs M → List ℕ
sent_over End = []
sent_over (More' e n p below q beside) = e.demand.sent ∷ sent_over beside

-- a node that sent so many has ended, or its counts are balanced, and so is what is below it
abbrev pub IsOwnerBalanced : {M T : Type 0} → Machine M T → M → List ℕ → ℕ → Type 0 → Type 0
IsOwnerBalanced b n taken sent below = (b.ended n ≡ true) ⊎ ((b.ended n ≡ false) × b.counted n taken sent × below)

-- of each input of a receiver that has not ended, the first of the row being input `i`: its completion was taken, or its edge
-- is live and its node is balanced
abbrev pub IsRowBalanced : {M T : Type 0} → Machine M T → M → ℕ → Inputs M → Type 0
IsRowBalanced b r i End = ⊤
IsRowBalanced b r i (More' e n p below q beside) =
    ((b.done r i ≡ true) ⊎ ((e.state ≡ Live) × IsOwnerBalanced b n (sent_over below) e.demand.sent (IsRowBalanced b n 0 below)))
    × IsRowBalanced b r (i + 1) beside

-- while the root's own edge is live and carried so many items
abbrev pub IsBalanced : {M T : Type 0} → Machine M T → Node M → ℕ → Type 0
IsBalanced b t sent = IsOwnerBalanced b t.machine (sent_over t.inputs) sent (IsRowBalanced b t.machine 0 t.inputs)

-- after a signal went over the root's own edge; an ending ended that edge
abbrev pub IsBalancedAfter : {M T : Type 0} → Machine M T → Signal T → Node M → ℕ → Type 0
IsBalancedAfter b (Next x) t sent = IsBalanced b t (sent + 1)
IsBalancedAfter b Complete t sent = ⊤
IsBalancedAfter b (Error c) t sent = ⊤

-- no edge of the row has carried as many items as can be asked for
abbrev pub IsRowWithin : {M : Type 0} → Inputs M → Type 0
IsRowWithin End = ⊤
IsRowWithin (More' e n p below q beside) = (e.demand.sent < UNBOUNDED) × IsRowWithin below × IsRowWithin beside

-- nor has an edge below the root
abbrev pub IsWithin : {M : Type 0} → Node M → Type 0
IsWithin t = IsRowWithin t.inputs
