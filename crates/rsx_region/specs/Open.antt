-- What stands over an edge of a part: whether its receivers go on, and whether signals still go over it and the edges over it.
use Rattle.std.specs.Prelude.{◌≡◌, ℕ, ◌+◌, ◌-◌, Bool, true, false, not, ◌&&◌, nat_eq, nat_le, if◌then◌else◌}
use Rattle.rsx_sources.specs.declared.machine.Machine.{Ghosts as Machine}
use Rattle.rsx_tree.specs.declared.inputs.Inputs.{Inputs, End, More'}
use Rattle.rsx_tree.specs.declared.node.Node.{Node}
use Rattle.rsx_tree.specs.Edges.{is_live}
use Rattle.rsx_tree.specs.Inputs.{size}
use Rattle.rsx_pipe.specs.Part.{Part}

-- No receiver over the edge `at` of a row, whose first edge is input `i` of its receiver, has ended, or is done with what comes from
-- there.
abbrev pub is_row_open : {M T : Type 0} → Machine M T → M → ℕ → Inputs M → ℕ → Bool
is_row_open b r i End at = false
is_row_open b r i (More' e n p below q beside) at =
    if nat_eq at 0 then not (b.done r i)
    else (if nat_le at (size below) then not (b.done r i) && (not (b.ended n) && is_row_open b n 0 below (at - 1))
    else is_row_open b r (i + 1) beside (at - 1 - size below))

-- the same of an edge of a part, 0 being that of its root, over which no receiver stands
abbrev pub is_open_over : {M T : Type 0} → Machine M T → Part M → ℕ → Bool
is_open_over b part at = if nat_eq at 0 then true else not (b.ended part.tree.machine) && is_row_open b part.tree.machine 0 part.tree.inputs (at - 1)

-- the edge `at` of a row, and each edge over it, is live
abbrev pub is_row_live : {M : Type 0} → Inputs M → ℕ → Bool
is_row_live End at = false
is_row_live (More' e n p below q beside) at =
    if nat_eq at 0 then is_live e.state
    else (if nat_le at (size below) then is_live e.state && is_row_live below (at - 1)
    else is_row_live beside (at - 1 - size below))

-- the same of an edge of a part
abbrev pub is_live_over : {M : Type 0} → Part M → ℕ → Bool
is_live_over part at = is_live part.root.state && (if nat_eq at 0 then true else is_row_live part.tree.inputs (at - 1))

-- ---- both at once

-- no receiver over the edge `at` of a row has ended or is done with what comes from there, and that edge and each over it is live
abbrev pub is_row_clear : {M T : Type 0} → Machine M T → M → ℕ → Inputs M → ℕ → Bool
is_row_clear b r i End at = false
is_row_clear b r i (More' e n p below q beside) at =
    if nat_eq at 0 then is_live e.state && not (b.done r i)
    else (if nat_le at (size below) then (is_live e.state && not (b.done r i)) && (not (b.ended n) && is_row_clear b n 0 below (at - 1))
    else is_row_clear b r (i + 1) beside (at - 1 - size below))

-- the same of an edge of a tree, whose root's own edge has the number 0
abbrev pub is_clear : {M T : Type 0} → Machine M T → Node M → ℕ → Bool
is_clear b t at = if nat_eq at 0 then true else not (b.ended t.machine) && is_row_clear b t.machine 0 t.inputs (at - 1)

-- an edge over which it is so in the second tree was so in the first
abbrev pub WasClear : {M T : Type 0} → Machine M T → Node M → Node M → Type 0
WasClear b old new = (at : ℕ) → is_clear b new at ≡ true → is_clear b old at ≡ true
