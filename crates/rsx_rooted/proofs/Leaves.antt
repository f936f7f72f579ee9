-- The leaves of an expression that read a hub, level by level.
use Rattle.std.proofs.Common.{◌≡◌, ℕ, ◌+◌, ◌<◌, ◌≤◌, Bool, true, false, nat_eq, List, [], ◌∷◌, length, get_or, map, drop, Vec, Global, refl, ap, ◌∙◌, arith}
use Rattle.std.specs.Prelude.{if◌then◌else◌}
use Rattle.rsx_types.proofs.Lists.{drop_read}
use Rattle.rsx_model.specs.declared.expr.Expr.{Expr}
use Rattle.rsx_model.specs.declared.expr.Expr.TheOpen.{Expr-F}
use Rattle.rsx_model.specs.declared.expr.Expr.TheOpen as layer
use Rattle.rsx_model.specs.declared.expr.Expr.TheFolds.{map-Expr, fold_out-Expr}
use Rattle.rsx_model.specs.declared.expr.Expr.TheVariants.{Concat, Merge, MergeDelay, Zip, Latest}
use Rattle.rsx_model.specs.declared.expr.Expr.TheViews.{outs-Concat, outs-Merge, outs-MergeDelay, outs-Zip, outs-Latest, out-Expr}
use Rattle.rsx_model.specs.Shape.{children, nodes, sum_of}
use Rattle.rsx_model.proofs.Unfold.{Each, by_children, children-map, nodes_out}
use Rattle.rsx_rooted.specs.Leaves.{leaves_on, reads_here}

reads_here-map : {T A B : Type 0} (n : ℕ) (h : A → B) (x : Expr-F T A) → reads_here n (map-Expr T A B h x) ≡ reads_here n x
reads_here-map n h (layer.Items v) = refl
reads_here-map n h x = refl

leaves_out : {T : Type 0} (n : ℕ) (e : Expr T) → leaves_on n e ≡ reads_here n (out-Expr T e) + sum_of (map (leaves_on n) (children (out-Expr T e)))
leaves_out {T} n e =
    let below = map-Expr T (Expr T) ℕ (leaves_on n) (out-Expr T e) in
    fold_out-Expr T ℕ (λ x. reads_here n x + sum_of (children x)) e
    ∙ ap (λ k. k + sum_of (children below)) (reads_here-map n (leaves_on n) (out-Expr T e))
    ∙ ap (λ ks. reads_here n (out-Expr T e) + sum_of ks) (children-map (leaves_on n) (out-Expr T e))

abbrev Several : Type 0 → Type 0
Several T = Vec (Expr T) Global

pub leaves_Concat : {T : Type 0} (n : ℕ) (v : Several T) → leaves_on n (Concat v) ≡ sum_of (map (leaves_on n) v.items)
leaves_Concat n v = rw (leaves_out, outs-Concat) (omega arith)

pub leaves_Merge : {T : Type 0} (n p : ℕ) (v : Several T) → leaves_on n (Merge p v) ≡ sum_of (map (leaves_on n) v.items)
leaves_Merge n p v = rw (leaves_out, outs-Merge) (omega arith)

pub leaves_MergeDelay : {T : Type 0} (n p : ℕ) (v : Several T) → leaves_on n (MergeDelay p v) ≡ sum_of (map (leaves_on n) v.items)
leaves_MergeDelay n p v = rw (leaves_out, outs-MergeDelay) (omega arith)

pub leaves_Zip : {T : Type 0} (n p : ℕ) (v : Several T) → leaves_on n (Zip p v) ≡ sum_of (map (leaves_on n) v.items)
leaves_Zip n p v = rw (leaves_out, outs-Zip) (omega arith)

pub leaves_Latest : {T : Type 0} (n p : ℕ) (v : Several T) → leaves_on n (Latest p v) ≡ sum_of (map (leaves_on n) v.items)
leaves_Latest n p v = rw (leaves_out, outs-Latest) (omega arith)

-- ---- there are no more of them than nodes

sum_le : {A : Type 0} (f g : A → ℕ) (xs : List A) → Each (λ x. f x ≤ g x) xs → sum_of (map f xs) ≤ sum_of (map g xs)
sum_le f g [] h = omega arith
sum_le f g (x ∷ xs) h = omega (arith, h.0, sum_le f g xs h.1)

reads_le : {T A : Type 0} (n : ℕ) (x : Expr-F T A) → reads_here n x ≤ 1
reads_le n (layer.Items v) = omega arith
reads_le n (layer.Range a k) = omega arith
reads_le n (layer.Hub h) = by_test (nat_eq h.0 n)
  where
    by_test : (b : Bool) → (if b then 1 else 0) ≤ 1
    by_test true = omega arith
    by_test false = omega arith
reads_le n (layer.Plain g b) = omega arith
reads_le n (layer.Concat v) = omega arith
reads_le n (layer.Merge p v) = omega arith
reads_le n (layer.MergeDelay p v) = omega arith
reads_le n (layer.Zip p v) = omega arith
reads_le n (layer.Latest p v) = omega arith
reads_le n (layer.Group f gs b) = omega arith
reads_le n (layer.Window k gs b) = omega arith
reads_le n (layer.Flat f c gs b) = omega arith
reads_le n (layer.FlatDelay f c gs b) = omega arith
reads_le n (layer.On k p b) = omega arith
reads_le n (layer.OnEager k p b) = omega arith

pub leaves_le : {T : Type 0} (n : ℕ) (e : Expr T) → leaves_on n e ≤ nodes e
leaves_le {T} n = by_children (λ e. leaves_on n e ≤ nodes e) (λ e kids.
    omega (arith, nodes_out e, leaves_out n e, reads_le n (out-Expr T e), sum_le (leaves_on n) nodes (children (out-Expr T e)) kids))

pub all_leaves_le : {T : Type 0} (n : ℕ) (es : List (Expr T)) → sum_of (map (leaves_on n) es) ≤ sum_of (map nodes es)
all_leaves_le n [] = omega arith
all_leaves_le n (e ∷ es) = omega (arith, leaves_le n e, all_leaves_le n es)

-- ---- how far a loop over inputs got

pub sum_front : {A : Type 0} (f : A → ℕ) (xs : List A) (i : ℕ) (x : A) → i < length xs → x ≡ get_or xs i x → sum_of (map f (drop i xs)) ≡ f x + sum_of (map f (drop (i + 1) xs))
sum_front f xs i x within is = ap (λ ys. sum_of (map f ys)) (drop_read xs i x within is)
