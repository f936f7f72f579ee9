-- One level of the definitions by recursion on an expression: at a node, and at each variant. And the induction.
use Rattle.std.proofs.Common.{◌≡◌, ℕ, ℤ, ◌+◌, ◌<◌, ◌≤◌, List, [], ◌∷◌, length, get_or, map, nat_le, nat_lt, Option, Some, None, option_map, option_and_then, slice_get, Vec, Global, Box, refl, sym, ap, subst, ◌∙◌, arith}
use Rattle.std.proofs.lemmas.List.{length-map}
use Rattle.std.proofs.lemmas.Option.{slice_get-get_or}
use Rattle.rsx_values.specs.Prelude.{plain, listed, range_items, Stream, Stage, MOST_ITEMS, concat, merge, merge_delay, eager_of, flat_map, flat_map_delay, group_by, window, latest_by, zip, HubId}
use Rattle.rsx_model.specs.declared.check.TheConstants.{MOST_DEPTH, MOST_NODES}
use Rattle.rsx_model.specs.declared.check.BadExpr.{BadExpr}
use Rattle.rsx_model.specs.declared.check.BadExpr.TheVariants.{Depth, Nodes, Inputs, Number, Hub as NoSuchHub, Length}
use Rattle.rsx_model.specs.declared.expr.Expr.{Expr}
use Rattle.rsx_model.specs.declared.expr.Expr.TheOpen.{Expr-F}
use Rattle.rsx_model.specs.declared.expr.Expr.TheOpen as layer
use Rattle.rsx_model.specs.declared.expr.Expr.TheFolds.{map-Expr, fold_out-Expr, ind-Expr}
use Rattle.rsx_model.specs.declared.expr.Expr.TheVariants.{Items, Range, Hub}
use Rattle.rsx_model.specs.declared.expr.Expr.TheViews.{Plain, Concat, Merge, MergeDelay, Zip, Latest, Group, Window, Flat, FlatDelay, On, OnEager, outs-Items, outs-Range, outs-Hub, outs-Plain, outs-Concat, outs-Merge, outs-MergeDelay, outs-Zip, outs-Latest, outs-Group, outs-Window, outs-Flat, outs-FlatDelay, outs-On, outs-OnEager, rolls-Items, rolls-Range, rolls-Hub, rolls-Plain, rolls-Concat, rolls-Merge, rolls-MergeDelay, rolls-Zip, rolls-Latest, rolls-Group, rolls-Window, rolls-Flat, rolls-FlatDelay, rolls-On, rolls-OnEager, roll-out-Expr, out-Expr, roll-Expr, out-roll-Expr}
use Rattle.rsx_model.specs.Shape.{children, leaf_here, sum_of, max_of, nodes, depth, leaves}
use Rattle.rsx_model.specs.Check.{own_fault, queued_fault, window_fault, chain_fault, flat_fault, or_else, first_of, first_fault, unless, range_fits, stage_fits, inputs_fit, worker_fits, refusal}
use Rattle.rsx_model.specs.Eval.{Environment, Meant, quiet, chosen, ended_by_record, behind, joined_value, in_order, node_value, node_meant, meant}

-- ---- a node and its children

own_fault-map : {T A B : Type 0} (hubs : ℕ) (h : A → B) (x : Expr-F T A) → own_fault hubs (map-Expr T A B h x) ≡ own_fault hubs x
own_fault-map hubs h (layer.Items v) = refl
own_fault-map hubs h (layer.Range a n) = refl
own_fault-map hubs h (layer.Hub k) = refl
own_fault-map hubs h (layer.Plain g b) = refl
own_fault-map hubs h (layer.Concat v) = ap (λ n. unless (inputs_fit n) Inputs) (length-map v.items h)
own_fault-map hubs h (layer.Merge p v) = ap (queued_fault p) (length-map v.items h)
own_fault-map hubs h (layer.MergeDelay p v) = ap (queued_fault p) (length-map v.items h)
own_fault-map hubs h (layer.Zip p v) = ap (queued_fault p) (length-map v.items h)
own_fault-map hubs h (layer.Latest p v) = ap (queued_fault p) (length-map v.items h)
own_fault-map hubs h (layer.Group f gs b) = refl
own_fault-map hubs h (layer.Window n gs b) = refl
own_fault-map hubs h (layer.Flat f c gs b) = refl
own_fault-map hubs h (layer.FlatDelay f c gs b) = refl
own_fault-map hubs h (layer.On k p b) = refl
own_fault-map hubs h (layer.OnEager k p b) = refl

leaf_here-map : {T A B : Type 0} (h : A → B) (x : Expr-F T A) → leaf_here (map-Expr T A B h x) ≡ leaf_here x
leaf_here-map h (layer.Items v) = refl
leaf_here-map h (layer.Range a n) = refl
leaf_here-map h (layer.Hub k) = refl
leaf_here-map h (layer.Plain g b) = refl
leaf_here-map h (layer.Concat v) = refl
leaf_here-map h (layer.Merge p v) = refl
leaf_here-map h (layer.MergeDelay p v) = refl
leaf_here-map h (layer.Zip p v) = refl
leaf_here-map h (layer.Latest p v) = refl
leaf_here-map h (layer.Group f gs b) = refl
leaf_here-map h (layer.Window n gs b) = refl
leaf_here-map h (layer.Flat f c gs b) = refl
leaf_here-map h (layer.FlatDelay f c gs b) = refl
leaf_here-map h (layer.On k p b) = refl
leaf_here-map h (layer.OnEager k p b) = refl

-- the children's answers
pub children-map : {T A B : Type 0} (h : A → B) (x : Expr-F T A) → children (map-Expr T A B h x) ≡ map h (children x)
children-map h (layer.Items v) = refl
children-map h (layer.Range a n) = refl
children-map h (layer.Hub k) = refl
children-map h (layer.Plain g b) = refl
children-map h (layer.Concat v) = refl
children-map h (layer.Merge p v) = refl
children-map h (layer.MergeDelay p v) = refl
children-map h (layer.Zip p v) = refl
children-map h (layer.Latest p v) = refl
children-map h (layer.Group f gs b) = refl
children-map h (layer.Window n gs b) = refl
children-map h (layer.Flat f c gs b) = refl
children-map h (layer.FlatDelay f c gs b) = refl
children-map h (layer.On k p b) = refl
children-map h (layer.OnEager k p b) = refl

pub nodes_out : {T : Type 0} (e : Expr T) → nodes e ≡ 1 + sum_of (map nodes (children (out-Expr T e)))
nodes_out {T} e = fold_out-Expr T ℕ (λ x. 1 + sum_of (children x)) e ∙ ap (λ xs. 1 + sum_of xs) (children-map nodes (out-Expr T e))

pub depth_out : {T : Type 0} (e : Expr T) → depth e ≡ 1 + max_of (map depth (children (out-Expr T e)))
depth_out {T} e = fold_out-Expr T ℕ (λ x. 1 + max_of (children x)) e ∙ ap (λ xs. 1 + max_of xs) (children-map depth (out-Expr T e))

pub leaves_out : {T : Type 0} (e : Expr T) → leaves e ≡ leaf_here (out-Expr T e) + sum_of (map leaves (children (out-Expr T e)))
leaves_out {T} e =
    fold_out-Expr T ℕ (λ x. leaf_here x + sum_of (children x)) e
    ∙ ap (λ n. n + sum_of (children (map-Expr T (Expr T) ℕ leaves (out-Expr T e)))) (leaf_here-map leaves (out-Expr T e))
    ∙ ap (λ xs. leaf_here (out-Expr T e) + sum_of xs) (children-map leaves (out-Expr T e))

-- a node's own fault, and then its children's
pub fault_out : {T : Type 0} (hubs : ℕ) (e : Expr T) → first_fault hubs e ≡ or_else (own_fault hubs (out-Expr T e)) (first_of (map (first_fault hubs) (children (out-Expr T e))))
fault_out {T} hubs e =
    fold_out-Expr T (Option BadExpr) (λ x. or_else (own_fault hubs x) (first_of (children x))) e
    ∙ ap (λ o. or_else o (first_of (children (map-Expr T (Expr T) (Option BadExpr) (first_fault hubs) (out-Expr T e))))) (own_fault-map hubs (first_fault hubs) (out-Expr T e))
    ∙ ap (λ xs. or_else (own_fault hubs (out-Expr T e)) (first_of xs)) (children-map (first_fault hubs) (out-Expr T e))

pub meant_out : {T : Type 0} (w : Environment T) (e : Expr T) → meant w e ≡ node_meant w (map-Expr T (Expr T) (Meant T) (meant w) (out-Expr T e))
meant_out {T} w e = fold_out-Expr T (Meant T) (node_meant w) e

-- the value of a node where it stands
pub value_out : {T : Type 0} (w : Environment T) (e : Expr T) (at leaf : ℕ) → (meant w e).value at leaf ≡ node_value w (map-Expr T (Expr T) (Meant T) (meant w) (out-Expr T e)) at leaf
value_out {T} w e at leaf = ap (λ (m : Meant T). m.value at leaf) (meant_out w e)

-- ---- induction by the children

-- P of each element
abbrev pub Each : {A : Type 0} → (A → Type 0) → List A → Type 0
Each P [] = Unit {0}
Each P (x ∷ xs) = P x × Each P xs

all_of_pairs : {A : Type 0} (P : A → Type 0) (zs : List ((e : A) × P e)) → Each P (map (λ z. z.0) zs)
all_of_pairs P [] = tt
all_of_pairs P (z ∷ zs) = (z.1, all_of_pairs P zs)

-- what holds of an expression where it holds of each child holds of every expression
pub by_children : {T : Type 0} (P : Expr T → Type 0) → ((e : Expr T) → Each P (children (out-Expr T e)) → P e) → (e : Expr T) → P e
by_children {T} P step = ind-Expr T P (λ x y is.
    let kids : Each P (children x) =
    subst (λ z. Each P (children z)) is (rw children-map (all_of_pairs P (children y))) in
    step (roll-Expr T x) (rw out-roll-Expr kids))

pub or_else-nothing : (o : Option BadExpr) → or_else o None ≡ o
or_else-nothing None = refl
or_else-nothing (Some k) = refl

-- ---- the equations at each variant

abbrev Listed : Type 0 → Type 0
Listed T = Vec T Global

abbrev Below : Type 0 → Type 0
Below T = Box (Expr T) Global

abbrev Stages : Type 0 → Type 0
Stages T = Vec (Stage T) Global

abbrev Several : Type 0 → Type 0
Several T = Vec (Expr T) Global

pub nodes_Concat : {T : Type 0} (v : Several T) → nodes (Concat v) ≡ 1 + sum_of (map nodes v.items)
nodes_Concat v = rw (nodes_out, outs-Concat) refl

pub nodes_Merge : {T : Type 0} (p : ℕ) (v : Several T) → nodes (Merge p v) ≡ 1 + sum_of (map nodes v.items)
nodes_Merge p v = rw (nodes_out, outs-Merge) refl

pub nodes_MergeDelay : {T : Type 0} (p : ℕ) (v : Several T) → nodes (MergeDelay p v) ≡ 1 + sum_of (map nodes v.items)
nodes_MergeDelay p v = rw (nodes_out, outs-MergeDelay) refl

pub nodes_Zip : {T : Type 0} (p : ℕ) (v : Several T) → nodes (Zip p v) ≡ 1 + sum_of (map nodes v.items)
nodes_Zip p v = rw (nodes_out, outs-Zip) refl

pub nodes_Latest : {T : Type 0} (p : ℕ) (v : Several T) → nodes (Latest p v) ≡ 1 + sum_of (map nodes v.items)
nodes_Latest p v = rw (nodes_out, outs-Latest) refl

pub leaves_Hub : (T : Type 0) (h : HubId) → leaves {T = T} (Hub h) ≡ 1
leaves_Hub T h = rw (leaves_out, outs-Hub) refl

pub first_fault_Hub : (T : Type 0) (hubs : ℕ) (h : HubId) → first_fault {T = T} hubs (Hub h) ≡ unless (nat_lt h.0 hubs) NoSuchHub
first_fault_Hub T hubs h = rw (fault_out, outs-Hub) (or_else-nothing _)

pub first_fault_Plain : {T : Type 0} (hubs : ℕ) (g : Stage T) (b : Below T) → first_fault hubs (Plain g b) ≡ or_else (unless (stage_fits g) Number) (first_fault hubs b.value)
first_fault_Plain hubs g b = rw (fault_out, outs-Plain) (ap (or_else (unless (stage_fits g) Number)) (or_else-nothing _))

pub first_fault_Concat : {T : Type 0} (hubs : ℕ) (v : Several T) → first_fault hubs (Concat v) ≡ or_else (unless (inputs_fit (length v.items)) Inputs) (first_of (map (first_fault hubs) v.items))
first_fault_Concat hubs v = rw (fault_out, outs-Concat) refl

pub first_fault_Merge : {T : Type 0} (hubs p : ℕ) (v : Several T) → first_fault hubs (Merge p v) ≡ or_else (queued_fault p (length v.items)) (first_of (map (first_fault hubs) v.items))
first_fault_Merge hubs p v = rw (fault_out, outs-Merge) refl

pub first_fault_MergeDelay : {T : Type 0} (hubs p : ℕ) (v : Several T) → first_fault hubs (MergeDelay p v) ≡ or_else (queued_fault p (length v.items)) (first_of (map (first_fault hubs) v.items))
first_fault_MergeDelay hubs p v = rw (fault_out, outs-MergeDelay) refl

pub first_fault_Zip : {T : Type 0} (hubs p : ℕ) (v : Several T) → first_fault hubs (Zip p v) ≡ or_else (queued_fault p (length v.items)) (first_of (map (first_fault hubs) v.items))
first_fault_Zip hubs p v = rw (fault_out, outs-Zip) refl

pub first_fault_Latest : {T : Type 0} (hubs p : ℕ) (v : Several T) → first_fault hubs (Latest p v) ≡ or_else (queued_fault p (length v.items)) (first_of (map (first_fault hubs) v.items))
first_fault_Latest hubs p v = rw (fault_out, outs-Latest) refl

pub first_fault_Flat : {T : Type 0} (hubs f c : ℕ) (gs : Stages T) (b : Below T) → first_fault hubs (Flat f c gs b) ≡ or_else (flat_fault c gs.items) (first_fault hubs b.value)
first_fault_Flat hubs f c gs b = rw (fault_out, outs-Flat) (ap (or_else (flat_fault c gs.items)) (or_else-nothing _))

pub first_fault_FlatDelay : {T : Type 0} (hubs f c : ℕ) (gs : Stages T) (b : Below T) → first_fault hubs (FlatDelay f c gs b) ≡ or_else (flat_fault c gs.items) (first_fault hubs b.value)
first_fault_FlatDelay hubs f c gs b = rw (fault_out, outs-FlatDelay) (ap (or_else (flat_fault c gs.items)) (or_else-nothing _))

pub first_fault_On : {T : Type 0} (hubs k p : ℕ) (b : Below T) → first_fault hubs (On k p b) ≡ or_else (unless (worker_fits k p) Number) (first_fault hubs b.value)
first_fault_On hubs k p b = rw (fault_out, outs-On) (ap (or_else (unless (worker_fits k p) Number)) (or_else-nothing _))

pub first_fault_OnEager : {T : Type 0} (hubs k p : ℕ) (b : Below T) → first_fault hubs (OnEager k p b) ≡ or_else (unless (worker_fits k p) Number) (first_fault hubs b.value)
first_fault_OnEager hubs k p b = rw (fault_out, outs-OnEager) (ap (or_else (unless (worker_fits k p) Number)) (or_else-nothing _))

pub value_Items : {T : Type 0} (w : Environment T) (v : Listed T) (at leaf : ℕ) → (meant w (Items v)).value at leaf ≡ quiet (slice_get w.notes at) (Some (listed v.items))
value_Items w v at leaf = rw (value_out, outs-Items) refl

pub value_Range : {T : Type 0} (w : Environment T) (a : ℤ) (n : ℕ) (at leaf : ℕ) → (meant w (Range a n)).value at leaf ≡ quiet (slice_get w.notes at) (Some (listed (range_items w.meaning a n)))
value_Range w a n at leaf = rw (value_out, outs-Range) refl

pub value_Hub : {T : Type 0} (w : Environment T) (h : HubId) (at leaf : ℕ) → (meant w (Hub h)).value at leaf ≡ quiet (slice_get w.notes at) (joined_value w h.0 leaf)
value_Hub w h at leaf = rw (value_out, outs-Hub) refl

pub value_Plain : {T : Type 0} (w : Environment T) (g : Stage T) (b : Below T) (at leaf : ℕ) → (meant w (Plain g b)).value at leaf ≡ quiet (slice_get w.notes at) (option_map (plain w.meaning g) ((meant w b.value).value (at + 1) leaf))
value_Plain w g b at leaf = rw (value_out, outs-Plain) refl

pub value_Concat : {T : Type 0} (w : Environment T) (v : Several T) (at leaf : ℕ) → (meant w (Concat v)).value at leaf ≡ quiet (slice_get w.notes at) (option_map concat (in_order (map (meant w) v.items) (at + 1) leaf))
value_Concat w v at leaf = rw (value_out, outs-Concat) refl

pub value_Merge : {T : Type 0} (w : Environment T) (p : ℕ) (v : Several T) (at leaf : ℕ) → (meant w (Merge p v)).value at leaf ≡ chosen (slice_get w.notes at) (λ cs. option_and_then (merge cs) (in_order (map (meant w) v.items) (at + 1) leaf))
value_Merge w p v at leaf = rw (value_out, outs-Merge) refl

pub value_MergeDelay : {T : Type 0} (w : Environment T) (p : ℕ) (v : Several T) (at leaf : ℕ) → (meant w (MergeDelay p v)).value at leaf ≡ chosen (slice_get w.notes at) (λ cs. option_and_then (merge_delay cs) (in_order (map (meant w) v.items) (at + 1) leaf))
value_MergeDelay w p v at leaf = rw (value_out, outs-MergeDelay) refl

pub value_Zip : {T : Type 0} (w : Environment T) (p : ℕ) (v : Several T) (at leaf : ℕ) → (meant w (Zip p v)).value at leaf ≡ ended_by_record (slice_get w.notes at) (λ i. option_and_then (zip w.meaning.row_of i) (in_order (map (meant w) v.items) (at + 1) leaf))
value_Zip w p v at leaf = rw (value_out, outs-Zip) refl

pub value_Latest : {T : Type 0} (w : Environment T) (p : ℕ) (v : Several T) (at leaf : ℕ) → (meant w (Latest p v)).value at leaf ≡ chosen (slice_get w.notes at) (λ cs. option_and_then (latest_by w.until_stop w.meaning.row_of cs) (in_order (map (meant w) v.items) (at + 1) leaf))
value_Latest w p v at leaf = rw (value_out, outs-Latest) refl

pub value_Group : {T : Type 0} (w : Environment T) (f : ℕ) (gs : Stages T) (b : Below T) (at leaf : ℕ) → (meant w (Group f gs b)).value at leaf ≡ chosen (slice_get w.notes at) (λ cs. option_and_then (group_by w.meaning f gs.items cs) ((meant w b.value).value (at + 1) leaf))
value_Group w f gs b at leaf = rw (value_out, outs-Group) refl

pub value_Window : {T : Type 0} (w : Environment T) (n : ℕ) (gs : Stages T) (b : Below T) (at leaf : ℕ) → (meant w (Window n gs b)).value at leaf ≡ quiet (slice_get w.notes at) (option_map (window w.meaning n gs.items) ((meant w b.value).value (at + 1) leaf))
value_Window w n gs b at leaf = rw (value_out, outs-Window) refl

pub value_Flat : {T : Type 0} (w : Environment T) (f c : ℕ) (gs : Stages T) (b : Below T) (at leaf : ℕ) → (meant w (Flat f c gs b)).value at leaf ≡ chosen (slice_get w.notes at) (λ cs. option_and_then (flat_map w.meaning f gs.items cs) ((meant w b.value).value (at + 1) leaf))
value_Flat w f c gs b at leaf = rw (value_out, outs-Flat) refl

pub value_FlatDelay : {T : Type 0} (w : Environment T) (f c : ℕ) (gs : Stages T) (b : Below T) (at leaf : ℕ) → (meant w (FlatDelay f c gs b)).value at leaf ≡ chosen (slice_get w.notes at) (λ cs. option_and_then (flat_map_delay w.meaning f gs.items cs) ((meant w b.value).value (at + 1) leaf))
value_FlatDelay w f c gs b at leaf = rw (value_out, outs-FlatDelay) refl

pub value_On : {T : Type 0} (w : Environment T) (k p : ℕ) (b : Below T) (at leaf : ℕ) → (meant w (On k p b)).value at leaf ≡ quiet (slice_get w.notes at) ((meant w b.value).value (at + 1) leaf)
value_On w k p b at leaf = rw (value_out, outs-On) refl

pub value_OnEager : {T : Type 0} (w : Environment T) (k p : ℕ) (b : Below T) (at leaf : ℕ) → (meant w (OnEager k p b)).value at leaf ≡ chosen (slice_get w.notes at) (λ cs. option_and_then (eager_of cs) ((meant w b.value).value (at + 1) leaf))
value_OnEager w k p b at leaf = rw (value_out, outs-OnEager) refl

-- ---- the size of what an expression means

sum_le : {A : Type 0} (f g : A → ℕ) (xs : List A) → Each (λ x. f x ≤ g x) xs → sum_of (map f xs) ≤ sum_of (map g xs)
sum_le f g [] h = omega arith
sum_le f g (x ∷ xs) h = omega (arith, h.0, sum_le f g xs h.1)

same_sum : {A : Type 0} (f g : A → ℕ) (xs : List A) → Each (λ x. f x ≡ g x) xs → sum_of (map f xs) ≡ sum_of (map g xs)
same_sum f g [] h = refl
same_sum f g (x ∷ xs) h = omega (arith, h.0, same_sum f g xs h.1)

map_twice : {A B C : Type 0} (f : B → C) (g : A → B) (xs : List A) → map f (map g xs) ≡ map (λ x. f (g x)) xs
map_twice f g [] = refl
map_twice f g (x ∷ xs) = ap (λ ys. f (g x) ∷ ys) (map_twice f g xs)

leaf_here-le : {T A : Type 0} (x : Expr-F T A) → leaf_here x ≤ 1
leaf_here-le (layer.Items v) = omega arith
leaf_here-le (layer.Range a n) = omega arith
leaf_here-le (layer.Hub h) = omega arith
leaf_here-le (layer.Plain g b) = omega arith
leaf_here-le (layer.Concat v) = omega arith
leaf_here-le (layer.Merge p v) = omega arith
leaf_here-le (layer.MergeDelay p v) = omega arith
leaf_here-le (layer.Zip p v) = omega arith
leaf_here-le (layer.Latest p v) = omega arith
leaf_here-le (layer.Group f gs b) = omega arith
leaf_here-le (layer.Window n gs b) = omega arith
leaf_here-le (layer.Flat f c gs b) = omega arith
leaf_here-le (layer.FlatDelay f c gs b) = omega arith
leaf_here-le (layer.On k p b) = omega arith
leaf_here-le (layer.OnEager k p b) = omega arith

pub leaves_le_nodes : {T : Type 0} (e : Expr T) → leaves e ≤ nodes e
leaves_le_nodes {T} = by_children (λ e. leaves e ≤ nodes e) (λ e kids.
    omega (arith, nodes_out e, leaves_out e, leaf_here-le (out-Expr T e), sum_le leaves nodes (children (out-Expr T e)) kids))

pub meant_nodes : {T : Type 0} (w : Environment T) (e : Expr T) → (meant w e).nodes ≡ nodes e
meant_nodes {T} w = by_children (λ e. (meant w e).nodes ≡ nodes e) (λ e kids.
    let cs = children (out-Expr T e) in
    ap (λ (m : Meant T). m.nodes) (meant_out w e)
    ∙ ap (λ ms. 1 + sum_of (map (λ (m : Meant T). m.nodes) ms)) (children-map (meant w) (out-Expr T e))
    ∙ ap (λ ns. 1 + sum_of ns) (map_twice (λ (m : Meant T). m.nodes) (meant w) cs)
    ∙ ap (λ n. 1 + n) (same_sum (λ c. (meant w c).nodes) nodes cs kids)
    ∙ sym (nodes_out e))

pub meant_leaves : {T : Type 0} (w : Environment T) (e : Expr T) → (meant w e).leaves ≡ leaves e
meant_leaves {T} w = by_children (λ e. (meant w e).leaves ≡ leaves e) (λ e kids.
    let cs = children (out-Expr T e) in
    ap (λ (m : Meant T). m.leaves) (meant_out w e)
    ∙ ap (λ n. n + sum_of (map (λ (m : Meant T). m.leaves) (children (map-Expr T (Expr T) (Meant T) (meant w) (out-Expr T e))))) (leaf_here-map (meant w) (out-Expr T e))
    ∙ ap (λ ms. leaf_here (out-Expr T e) + sum_of (map (λ (m : Meant T). m.leaves) ms)) (children-map (meant w) (out-Expr T e))
    ∙ ap (λ ns. leaf_here (out-Expr T e) + sum_of ns) (map_twice (λ (m : Meant T). m.leaves) (meant w) cs)
    ∙ ap (λ n. leaf_here (out-Expr T e) + n) (same_sum (λ c. (meant w c).leaves) leaves cs kids)
    ∙ sym (leaves_out e))

-- ---- an expression that is not refused

pub or_none : (o rest : Option BadExpr) → or_else o rest ≡ None → (o ≡ None) × (rest ≡ None)
or_none None rest h = (refl, h)
or_none (Some k) rest h = cc

few_nodes : (n : ℕ) → unless (nat_le n MOST_NODES) Nodes ≡ None → n ≤ MOST_NODES
few_nodes n e = grind arith

few_levels : (n : ℕ) → unless (nat_le n MOST_DEPTH) Depth ≡ None → n ≤ MOST_DEPTH
few_levels n e = grind arith

pub record IsSound {T : Type 0} (hubs : ℕ) (e : Expr T) : Type 0 where
  pub deep : depth e ≤ MOST_DEPTH
  pub small : nodes e ≤ MOST_NODES
  pub few_leaves : leaves e ≤ MOST_NODES
  pub fault : first_fault hubs e ≡ None

pub sound : {T : Type 0} (hubs : ℕ) (e : Expr T) → refusal hubs e ≡ None → IsSound hubs e
sound hubs e h =
    let level = or_none _ _ h in
    let both = or_none _ _ level.1 in
    let small = few_nodes (nodes e) both.0 in
    record {
      deep = few_levels (depth e) level.0;
      small = small;
      few_leaves = omega (arith, small, leaves_le_nodes e);
      fault = both.1;
    }

-- ---- a hub leaf

is_below : (n hubs : ℕ) → unless (nat_lt n hubs) NoSuchHub ≡ None → n < hubs
is_below n hubs e = grind arith

-- where it isn't refused, there is such a hub
pub hub_there : (T : Type 0) (hubs : ℕ) (h : HubId) → first_fault {T = T} hubs (Hub h) ≡ None → h.0 < hubs
hub_there T hubs h e = is_below h.0 hubs (sym (first_fault_Hub T hubs h) ∙ e)

pub joined_there : {T : Type 0} (w : Environment T) (hub leaf : ℕ) (v : Stream T) → slice_get w.hubs hub ≡ Some v → leaf < length w.joins → joined_value w hub leaf ≡ Some (behind (get_or w.joins leaf 0) v)
joined_there w hub leaf v is within = rw (slice_get-get_or w.joins leaf 0 within, is) refl

-- ---- what an operator stands over

-- the same of what stands under a `flatMap`, with a concurrency and a chain within their limits
pub fault_Flat : {T : Type 0} (hubs f c : ℕ) (gs : Stages T) (b : Below T) → first_fault hubs (Flat f c gs b) ≡ None → (flat_fault c gs.items ≡ None) × (first_fault hubs b.value ≡ None)
fault_Flat hubs f c gs b h = or_none _ _ (sym (first_fault_Flat hubs f c gs b) ∙ h)

pub fault_FlatDelay : {T : Type 0} (hubs f c : ℕ) (gs : Stages T) (b : Below T) → first_fault hubs (FlatDelay f c gs b) ≡ None → (flat_fault c gs.items ≡ None) × (first_fault hubs b.value ≡ None)
fault_FlatDelay hubs f c gs b h = or_none _ _ (sym (first_fault_FlatDelay hubs f c gs b) ∙ h)

-- the same of what stands under a `publishOn`, of a worker and a prefetch within their limits
pub fault_On : {T : Type 0} (hubs k p : ℕ) (b : Below T) → first_fault hubs (On k p b) ≡ None → (unless (worker_fits k p) Number ≡ None) × (first_fault hubs b.value ≡ None)
fault_On hubs k p b h = or_none _ _ (sym (first_fault_On hubs k p b) ∙ h)

pub fault_OnEager : {T : Type 0} (hubs k p : ℕ) (b : Below T) → first_fault hubs (OnEager k p b) ≡ None → (unless (worker_fits k p) Number ≡ None) × (first_fault hubs b.value ≡ None)
fault_OnEager hubs k p b h = or_none _ _ (sym (first_fault_OnEager hubs k p b) ∙ h)

-- ---- what a node of several inputs stands over

-- nothing is wrong with the children of an expression that isn't refused
pub fault_children : {T : Type 0} (hubs : ℕ) (e : Expr T) → first_fault hubs e ≡ None → first_of (map (first_fault hubs) (children (out-Expr T e))) ≡ None
fault_children {T} hubs e h = (or_none (own_fault hubs (out-Expr T e)) (first_of (map (first_fault hubs) (children (out-Expr T e)))) (sym (fault_out hubs e) ∙ h)).1

pub fault_Concat : {T : Type 0} (hubs : ℕ) (v : Several T) → first_fault hubs (Concat v) ≡ None → (unless (inputs_fit (length v.items)) Inputs ≡ None) × (first_of (map (first_fault hubs) v.items) ≡ None)
fault_Concat hubs v h = or_none _ _ (sym (first_fault_Concat hubs v) ∙ h)

pub fault_Merge : {T : Type 0} (hubs p : ℕ) (v : Several T) → first_fault hubs (Merge p v) ≡ None → (queued_fault p (length v.items) ≡ None) × (first_of (map (first_fault hubs) v.items) ≡ None)
fault_Merge hubs p v h = or_none _ _ (sym (first_fault_Merge hubs p v) ∙ h)

pub fault_MergeDelay : {T : Type 0} (hubs p : ℕ) (v : Several T) → first_fault hubs (MergeDelay p v) ≡ None → (queued_fault p (length v.items) ≡ None) × (first_of (map (first_fault hubs) v.items) ≡ None)
fault_MergeDelay hubs p v h = or_none _ _ (sym (first_fault_MergeDelay hubs p v) ∙ h)

pub fault_Zip : {T : Type 0} (hubs p : ℕ) (v : Several T) → first_fault hubs (Zip p v) ≡ None → (queued_fault p (length v.items) ≡ None) × (first_of (map (first_fault hubs) v.items) ≡ None)
fault_Zip hubs p v h = or_none _ _ (sym (first_fault_Zip hubs p v) ∙ h)

pub fault_Latest : {T : Type 0} (hubs p : ℕ) (v : Several T) → first_fault hubs (Latest p v) ≡ None → (queued_fault p (length v.items) ≡ None) × (first_of (map (first_fault hubs) v.items) ≡ None)
fault_Latest hubs p v h = or_none _ _ (sym (first_fault_Latest hubs p v) ∙ h)
