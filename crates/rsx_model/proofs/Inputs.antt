-- How far a loop over the inputs of a node got.
use Rattle.std.proofs.Common.{◌≡◌, ◌≢◌, ◌∙◌, ℕ, ◌+◌, ◌-◌, ◌≤◌, List, [], ◌∷◌, length, map, drop, nat_le, true, false, max, Option, Some, None, refl, sym, ap, arith}
use Rattle.std.proofs.lemmas.List.{drop_all}
use Rattle.rsx_model.specs.declared.expr.Expr.{Expr}
use Rattle.std.proofs.lemmas.Bool.Decides.{nat_tests}
use Rattle.rsx_model.specs.declared.check.BadExpr.{BadExpr}
use Rattle.std.specs.Prelude.{is_some}
use Rattle.rsx_model.specs.declared.expr.Expr.TheViews.{out-Expr}
use Rattle.rsx_model.specs.Shape.{children, leaf_here, sum_of, max_of, nodes, depth, leaves}
use Rattle.rsx_model.specs.Check.{or_else, first_of, own_fault, first_fault}
use Rattle.rsx_model.proofs.Unfold.{fault_out, nodes_out, depth_out, leaves_out, or_else-nothing}

-- the sum over those behind

pub sum_front : {A : Type 0} (f : A → ℕ) (xs : List A) (i : ℕ) (x : A) → drop i xs ≡ x ∷ drop (i + 1) xs → sum_of (map f (drop i xs)) ≡ f x + sum_of (map f (drop (i + 1) xs))
sum_front f xs i x is = ap (λ ys. sum_of (map f ys)) is

pub sum_none : {A : Type 0} (f : A → ℕ) (xs : List A) (i : ℕ) → length xs ≤ i → sum_of (map f (drop i xs)) ≡ 0
sum_none f xs i past = ap (λ ys. sum_of (map f ys)) (drop_all i xs past)

-- ---- how deep the inputs are

pub one_deeper : (d most : ℕ) → most ≢ 0 → nat_le d (most - 1) ≡ nat_le (1 + d) most
one_deeper d most h = grind (arith, nat_tests)

pub too_deep : (d e most : ℕ) → nat_le d most ≡ false → false ≡ nat_le (max d e) most
too_deep d e most h = grind (arith, nat_tests)

pub none_deep : (most : ℕ) → true ≡ nat_le 0 most
none_deep most = grind (arith, nat_tests)

pub deep_enough : (d e most : ℕ) → nat_le d most ≡ true → nat_le e most ≡ nat_le (max d e) most
deep_enough d e most h = grind (arith, nat_tests)

-- the depth of a node, where these are its children
pub below_depth : {T : Type 0} (e : Expr T) (es : List (Expr T)) (most : ℕ) → es ≡ children (out-Expr T e) → most ≢ 0 → nat_le (max_of (map depth es)) (most - 1) ≡ nat_le (depth e) most
below_depth e es most kids more =
    one_deeper (max_of (map depth es)) most more
    ∙ ap (λ d. nat_le d most) (sym (depth_out e ∙ ap (λ ys. 1 + max_of (map depth ys)) (sym kids)))

only_depth : (d : ℕ) → d ≡ max d 0
only_depth d = omega arith

-- and where this is its only child
pub one_depth : {T : Type 0} (e x : Expr T) (most : ℕ) → x ∷ [] ≡ children (out-Expr T e) → most ≢ 0 → nat_le (depth x) (most - 1) ≡ nat_le (depth e) most
one_depth e x most kids more = ap (λ d. nat_le d (most - 1)) (only_depth (depth x)) ∙ below_depth e (x ∷ []) most kids more

-- ---- how many nodes and leaves there are

pub below_nodes : {T : Type 0} (e : Expr T) (es : List (Expr T)) → es ≡ children (out-Expr T e) → nodes e ≡ 1 + sum_of (map nodes es)
below_nodes e es kids = nodes_out e ∙ ap (λ ys. 1 + sum_of (map nodes ys)) (sym kids)

pub below_leaves : {T : Type 0} (e : Expr T) (es : List (Expr T)) → es ≡ children (out-Expr T e) → leaves e ≡ leaf_here (out-Expr T e) + sum_of (map leaves es)
below_leaves {T} e es kids = leaves_out e ∙ ap (λ ys. leaf_here (out-Expr T e) + sum_of (map leaves ys)) (sym kids)

-- ---- what is wrong with the inputs

pub below_own : (own rest : Option BadExpr) → false ≡ is_some own → rest ≡ or_else own rest
below_own None rest h = refl
below_own (Some k) rest h = cc

-- where nothing is wrong with the node itself, the fault is that of its inputs
pub fault_inputs : {T : Type 0} (hubs : ℕ) (e : Expr T) (es : List (Expr T)) (own : Option BadExpr) → false ≡ is_some own → own ≡ own_fault hubs (out-Expr T e) → children (out-Expr T e) ≡ es → first_of (map (first_fault hubs) es) ≡ first_fault hubs e
fault_inputs {T} hubs e es own fine is kids =
    below_own own (first_of (map (first_fault hubs) es)) fine
    ∙ ap (λ o. or_else o (first_of (map (first_fault hubs) es))) is
    ∙ ap (λ ys. or_else (own_fault hubs (out-Expr T e)) (first_of (map (first_fault hubs) ys))) (sym kids)
    ∙ sym (fault_out hubs e)

-- and of its only input
pub fault_one : {T : Type 0} (hubs : ℕ) (e x : Expr T) (own : Option BadExpr) → false ≡ is_some own → own ≡ own_fault hubs (out-Expr T e) → children (out-Expr T e) ≡ x ∷ [] → first_fault hubs x ≡ first_fault hubs e
fault_one hubs e x own fine is kids = sym (or_else-nothing (first_fault hubs x)) ∙ fault_inputs hubs e (x ∷ []) own fine is kids
