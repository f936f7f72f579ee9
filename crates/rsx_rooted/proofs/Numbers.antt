-- Numbers of edges: the root edge is 0, and those below it follow.
use Rattle.std.proofs.Common.{◌≡◌, ℕ, ◌+◌, ◌-◌, ◌<◌, Bool, true, false, nat_eq, if◌then◌else◌, List, ◌∷◌, ap, sym, ◌∙◌, arith, Option, Some}
use Rattle.std.proofs.lemmas.Bool.Decides.{nat_tests}
use Rattle.rsx_types.proofs.Numbers.{not_zero}
use Rattle.rsx_sources.specs.declared.machine.Front.{Front}
use Rattle.rsx_tree.specs.Edges.{EdgeView, asked_up_to, changed_at}
use Rattle.rsx_tree.proofs.Changes.{chosen_second}

pub suc_minus : (at : ℕ) → (at + 1) - 1 ≡ at
suc_minus at = omega arith

pub above_zero : (at : ℕ) (x y : Bool) → (if nat_eq (at + 1) 0 then x else y) ≡ y
above_zero at x y = grind (arith, nat_tests)

pub not_root : (at : ℕ) (x y : Bool) → (at ≡ 0 → ⊥) → (if nat_eq at 0 then x else y) ≡ y
not_root at x y h = grind (arith, nat_tests, h)

pub at_zero : (at : ℕ) (x y z : Bool) → x ≡ z → y ≡ z → (if nat_eq at 0 then x else y) ≡ z
at_zero at x y z e f = elim (nat_eq at 0) as (λ b. (if b then x else y) ≡ z) [ true ↦ e | false ↦ f ]

pub asked_all : (root : EdgeView) (es es' : List EdgeView) (at w first : ℕ) → 0 < at → es' ≡ changed_at (asked_up_to w) (at - 1) es → root ∷ es' ≡ changed_at (asked_up_to (if nat_eq at 0 then first else w)) at (root ∷ es)
asked_all root es es' at w first z e =
    let not = not_zero at z in
    let want : (if nat_eq at 0 then first else w) ≡ w = chosen_second (nat_eq at 0) first w not in
    let there : changed_at (asked_up_to w) at (root ∷ es) ≡ root ∷ changed_at (asked_up_to w) (at - 1) es = chosen_second (nat_eq at 0) _ _ not in
    ap (λ l. root ∷ l) e ∙ (sym there ∙ ap (λ v. changed_at (asked_up_to v) at (root ∷ es)) (sym want))

pub front_there : (at : ℕ) (root below : Option Front) (f : Front) → 0 < at → below ≡ Some f → (if nat_eq at 0 then root else below) ≡ Some f
front_there at root below f z e = chosen_second (nat_eq at 0) root below (not_zero at z) ∙ e
