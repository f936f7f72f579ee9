-- A closed row has as many nodes.
use Rattle.std.proofs.Common.{◌≡◌, Bool, true, false, refl}
use Rattle.rsx_tree.specs.declared.inputs.Inputs.{Inputs, End, More'}
use Rattle.rsx_tree.specs.Inputs.{size, closed_row, closed_row_if}

pub size_closed : {M : Type 0} (t : Inputs M) → size (closed_row t) ≡ size t
size_closed End = refl
size_closed (More' e n p below q beside) = rw (size_closed below, size_closed beside) refl

pub size_closed_if : {M : Type 0} (c : Bool) (t : Inputs M) → size (closed_row_if c t) ≡ size t
size_closed_if true t = size_closed t
size_closed_if false t = refl
