-- The drawing of inputs, one behind the other, as a loop writes them.
use Rattle.std.proofs.Common.{◌≡◌, ℕ, ◌+◌, ◌<◌, List, [], ◌∷◌, ◌++◌, length, get_or, map, take, refl, sym, ap, ◌∙◌, append_assoc, arith, Result, Ok, Err}
use Rattle.std.specs.Prelude.{zero, suc, IfOk, OnOk}
use Rattle.std.proofs.lemmas.List.{append-nil, map_push, take_more}
use Rattle.rsx_demo.specs.declared.val.Val.{Val}
use Rattle.rsx_model.specs.declared.expr.Expr.{Expr}
use Rattle.rsx_script.specs.Orders.{Tree, tree_of, trees_of}
use Rattle.rsx_drive.specs.Drawn.{all_nodes, all_rows_text, indent_text, nodes, rows_text}

-- a line is indented by one level more
pub indent_more : (d : ℕ) → indent_text d ++ 32 ∷ 32 ∷ [] ≡ indent_text (d + 1)
indent_more zero = refl
indent_more (suc d) =
    let next : suc d + 1 ≡ suc (d + 1) = omega arith in
    ap (λ l. 32 ∷ 32 ∷ l) (indent_more d) ∙ ap indent_text (sym next)

-- how many nodes there are with one more behind them
nodes_behind : (us : List Tree) (t : Tree) → all_nodes (trees_of (us ++ t ∷ [])) ≡ all_nodes (trees_of us) + nodes t
nodes_behind [] t = omega arith
nodes_behind (u ∷ us) t = let e = nodes_behind us t in omega (arith, e)

-- their lines
rows_behind : (d n : ℕ) (us : List Tree) (t : Tree) → all_rows_text d n (trees_of (us ++ t ∷ [])) ≡ all_rows_text d n (trees_of us) ++ rows_text d (n + all_nodes (trees_of us)) t
rows_behind d n [] t =
    let none : n ≡ n + 0 = omega arith in
    append-nil (rows_text d n t) ∙ ap (λ k. rows_text d k t) none
rows_behind d n (u ∷ us) t =
    let there : (n + nodes u) + all_nodes (trees_of us) ≡ n + (nodes u + all_nodes (trees_of us)) = omega arith in
    ap (λ l. rows_text d n u ++ l) (rows_behind d (n + nodes u) us t ∙ ap (λ k. all_rows_text d (n + nodes u) (trees_of us) ++ rows_text d k t) there)
    ∙ sym (append_assoc (rows_text d n u) (all_rows_text d (n + nodes u) (trees_of us)) (rows_text d (n + (nodes u + all_nodes (trees_of us))) t))

taken : (xs : List (Expr Val)) (i : ℕ) (x : Expr Val) → i < length xs → x ≡ get_or xs i x → trees_of (map tree_of (take (i + 1) xs)) ≡ trees_of (map tree_of (take i xs) ++ tree_of x ∷ [])
taken xs i x h e =
    let more : take (i + 1) xs ≡ take i xs ++ x ∷ [] = take_more xs i x h ∙ ap (λ y. take i xs ++ y ∷ []) (sym e) in
    ap (λ l. trees_of (map tree_of l)) more ∙ ap trees_of (map_push tree_of (take i xs) x)

pub nodes_more : (xs : List (Expr Val)) (i : ℕ) (x : Expr Val) → i < length xs → x ≡ get_or xs i x
    → all_nodes (trees_of (map tree_of (take (i + 1) xs))) ≡ all_nodes (trees_of (map tree_of (take i xs))) + nodes (tree_of x)
nodes_more xs i x h e = ap all_nodes (taken xs i x h e) ∙ nodes_behind (map tree_of (take i xs)) (tree_of x)

pub rows_more : (d n next : ℕ) (xs : List (Expr Val)) (i : ℕ) (x : Expr Val) (first old new : List ℕ) → i < length xs → x ≡ get_or xs i x
    → next ≡ n + all_nodes (trees_of (map tree_of (take i xs))) → old ≡ first ++ all_rows_text d n (trees_of (map tree_of (take i xs))) → new ≡ old ++ rows_text d next (tree_of x)
    → new ≡ first ++ all_rows_text d n (trees_of (map tree_of (take (i + 1) xs)))
rows_more d n next xs i x first old new h e count before added =
    let so_far = all_rows_text d n (trees_of (map tree_of (take i xs))) in
    let k = n + all_nodes (trees_of (map tree_of (take i xs))) in
    added
    ∙ ap (λ l. l ++ rows_text d next (tree_of x)) before
    ∙ ap (λ m. (first ++ so_far) ++ rows_text d m (tree_of x)) count
    ∙ append_assoc first so_far (rows_text d k (tree_of x))
    ∙ ap (λ l. first ++ l) (sym (ap (all_rows_text d n) (taken xs i x h e) ∙ rows_behind d n (map tree_of (take i xs)) (tree_of x)))

-- the line of a node, and then those below it
pub put_below : (first mid new row below : List ℕ) → mid ≡ first ++ row → new ≡ mid ++ below → new ≡ first ++ (row ++ below)
put_below first mid new row below h k = k ∙ ap (λ l. l ++ below) h ∙ append_assoc first row below

pub put_on : {X E : Type 0} (r : Result X E) (first mid new row below whole : List ℕ) → mid ≡ first ++ row → whole ≡ row ++ below → OnOk r (new ≡ mid ++ below) → OnOk r (new ≡ first ++ whole)
put_on (Ok x) first mid new row below whole h e k = put_below first mid new row below h k ∙ ap (λ l. first ++ l) (sym e)
put_on (Err x) first mid new row below whole h e k = k

-- the number behind the nodes below a node is that behind all of its nodes
pub count_on : {E : Type 0} (r : Result ℕ E) (n below all : ℕ) → all ≡ 1 + below → IfOk r (λ next. next ≡ (n + 1) + below) → IfOk r (λ next. next ≡ n + all)
count_on (Ok next) n below all h k = omega (arith, h, k)
count_on (Err x) n below all h k = k
