-- A tree in which another node, with other inputs below it, sends over one of the edges.
use Rattle.std.specs.Prelude.{ℕ, ◌-◌, nat_eq, nat_le, if◌then◌else◌}
use Rattle.rsx_tree.specs.declared.inputs.Inputs.{Inputs, End, More'}
use Rattle.rsx_tree.specs.declared.node.Node.{Node}
use Rattle.rsx_tree.specs.Inputs.{size}

-- the row, where the node `x` sends over the edge `at`, and `row` is below it
abbrev pub put_at : {M : Type 0} → ℕ → M → Inputs M → Inputs M → Inputs M
put_at at x row End = End
put_at at x row (More' e n p below q beside) =
    if nat_eq at 0 then More' e x p row q beside
    else (if nat_le at (size below) then More' e n p (put_at (at - 1) x row below) q beside
    else More' e n p below q (put_at (at - 1 - size below) x row beside))

-- the tree, where that is so of the edge `at` below its root
abbrev pub with_sender : {M : Type 0} → ℕ → M → Inputs M → Node M → Node M
with_sender at x row t = record t { inputs = put_at at x row t.inputs }
