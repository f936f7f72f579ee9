-- An edge that isn't there: nothing is put over it.
use Rattle.std.proofs.Common.{◌≡◌, ℕ, ◌-◌, ◌≤◌, nat_eq, nat_le, refl, ap, ◌∙◌, arith}
use Rattle.std.proofs.lemmas.Bool.{lt-leb}
use Rattle.rsx_types.proofs.Numbers.{not_zero}
use Rattle.rsx_tree.specs.declared.inputs.Inputs.{Inputs, End, More'}
use Rattle.rsx_tree.specs.declared.node.Node.{Node}
use Rattle.rsx_tree.specs.Inputs.{size}
use Rattle.rsx_tree.specs.Swapped.{put_at, with_sender}
use Rattle.rsx_tree.proofs.Changes.{chosen_second}

put_beyond : {M : Type 0} (t : Inputs M) (at : ℕ) (x : M) (row : Inputs M) → size t ≤ at → put_at at x row t ≡ t
put_beyond End at x row far = refl
put_beyond (More' e n p below q beside) at x row far =
    chosen_second (nat_eq at 0) _ _ (not_zero at (omega (arith, far)))
    ∙ (chosen_second (nat_le at (size below)) _ _ (lt-leb at (size below) (omega (arith, far)))
    ∙ ap (λ t. More' e n p below q t) (put_beyond beside (at - 1 - size below) x row (omega (arith, far))))

pub none_there : {M : Type 0} (t : Node M) (at : ℕ) (x : M) (row : Inputs M) → size t.inputs ≤ at → with_sender at x row t ≡ t
none_there t at x row far = ap (λ inputs. record { machine = t.machine; inputs = inputs }) (put_beyond t.inputs at x row far)
