-- The text of inputs, one behind the other, as a loop writes them.
use Rattle.std.proofs.Common.{◌≡◌, ℕ, ◌+◌, ◌<◌, List, [], ◌∷◌, ◌++◌, length, get_or, map, take, sym, ap, ◌∙◌, append_assoc}
use Rattle.std.specs.Prelude.{codes}
use Rattle.std.proofs.lemmas.List.{append-nil, map_push, take_more}
use Rattle.rsx_demo.specs.declared.val.Val.{Val}
use Rattle.rsx_model.specs.declared.expr.Expr.{Expr}
use Rattle.rsx_script.specs.Orders.{Tree, tree_of, trees_of}
use Rattle.rsx_drive.specs.Text.{tree_text, trees_text}

one_behind : (us : List Tree) (t : Tree) → trees_text (trees_of (us ++ t ∷ [])) ≡ trees_text (trees_of us) ++ (codes " " ++ tree_text t)
one_behind [] t = ap (λ l. 32 ∷ l) (append-nil (tree_text t))
one_behind (u ∷ us) t =
    ap (λ l. 32 ∷ l) (ap (λ l. tree_text u ++ l) (one_behind us t) ∙ sym (append_assoc (tree_text u) (trees_text (trees_of us)) (32 ∷ tree_text t)))

pub one_more : (xs : List (Expr Val)) (i : ℕ) (x : Expr Val) → i < length xs → x ≡ get_or xs i x
    → trees_text (trees_of (map tree_of (take i xs))) ++ (codes " " ++ tree_text (tree_of x)) ≡ trees_text (trees_of (map tree_of (take (i + 1) xs)))
one_more xs i x h e =
    let more : take (i + 1) xs ≡ take i xs ++ x ∷ [] = take_more xs i x h ∙ ap (λ y. take i xs ++ y ∷ []) (sym e) in
    sym (
    ap (λ l. trees_text (trees_of (map tree_of l))) more
    ∙ ap (λ l. trees_text (trees_of l)) (map_push tree_of (take i xs) x)
    ∙ one_behind (map tree_of (take i xs)) (tree_of x))
