-- An expression of several has no more nodes than they have together.
use Rattle.std.proofs.Common.{◌≡◌, ℕ, zero, suc, ◌+◌, ◌*◌, ◌<◌, List, [], ◌∷◌, length, map, get_or, ap, arith}
use Rattle.rsx_model.specs.Shape.{nodes, sum_of}
use Rattle.rsx_model.specs.declared.expr.Expr.{Expr}

pub input_smaller : {T : Type 0} (es : List (Expr T)) (i : ℕ) (e : Expr T) → i < length es → e ≡ get_or es i e → 2 * nodes e < 2 * sum_of (map nodes es) + 1
input_smaller [] i e within is = absurd (omega arith)
input_smaller (x ∷ es) zero e within is = let same = ap nodes is in omega arith
input_smaller (x ∷ es) (suc i) e within is = let others = input_smaller es i e (omega arith) is in omega arith
