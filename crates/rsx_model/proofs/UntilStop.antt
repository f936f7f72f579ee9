-- Where an expression has a value with nothing chosen behind the stop of a combineLatest, that is its value.
use Rattle.std.proofs.Common.{◌≡◌, ◌∙◌, ℕ, ◌+◌, List, [], ◌∷◌, map, Option, Some, None, option_map, option_and_then, slice_get, refl, sym, ap}
use Rattle.rsx_values.specs.Prelude.{concat, merge, merge_delay, eager_of, flat_map, flat_map_delay, group_by, window, combine_latest, latest_until_stop, plain, zip, Meaning, Note, Nothing, Picks, Ended, Stream}
use Rattle.rsx_values.proofs.UntilStop.{latest_same}
use Rattle.rsx_model.specs.declared.expr.Expr.{Expr}
use Rattle.rsx_model.specs.declared.expr.Expr.TheOpen.{Expr-F}
use Rattle.rsx_model.specs.declared.expr.Expr.TheOpen as layer
use Rattle.rsx_model.specs.declared.expr.Expr.TheFolds.{map-Expr}
use Rattle.rsx_model.specs.declared.expr.Expr.TheViews.{out-Expr}
use Rattle.rsx_model.specs.Shape.{children}
use Rattle.rsx_model.specs.Eval.{Environment, Meant, environment, environment_until_stop, quiet, chosen, ended_by_record, in_order, node_value, meant, eval}
use Rattle.rsx_model.proofs.Unfold.{Each, by_children, value_out, meant_nodes, meant_leaves}

-- what is some value here is that value there
abbrev Same : {A : Type 0} → Option A → Option A → Type 0
Same {A} o p = (a : A) → o ≡ Some a → p ≡ Some a

map_same : {A B : Type 0} (f : A → B) (o p : Option A) → Same o p → Same (option_map f o) (option_map f p)
map_same f None p same b h = cc
map_same f (Some a) p same b h = ap (option_map f) (same a refl) ∙ h

then_same : {A B : Type 0} (f g : A → Option B) (o p : Option A) → ((a : A) → Same (f a) (g a)) → Same o p → Same (option_and_then f o) (option_and_then g p)
then_same f g None p fine same b h = cc
then_same f g (Some a) p fine same b h = ap (option_and_then g) (same a refl) ∙ fine a b h

quiet_same : {A : Type 0} (n : Option Note) (o p : Option A) → Same o p → Same (quiet n o) (quiet n p)
quiet_same None o p same a h = cc
quiet_same (Some Nothing) o p same a h = same a h
quiet_same (Some (Picks cs)) o p same a h = cc
quiet_same (Some (Ended i)) o p same a h = cc

chosen_same : {A : Type 0} (n : Option Note) (f g : List ℕ → Option A) → ((cs : List ℕ) → Same (f cs) (g cs)) → Same (chosen n f) (chosen n g)
chosen_same None f g same a h = cc
chosen_same (Some Nothing) f g same a h = cc
chosen_same (Some (Picks cs)) f g same a h = same cs a h
chosen_same (Some (Ended i)) f g same a h = cc

record_same : {A : Type 0} (n : Option Note) (f g : Option ℕ → Option A) → ((i : Option ℕ) → Same (f i) (g i)) → Same (ended_by_record n f) (ended_by_record n g)
record_same None f g same a h = cc
record_same (Some Nothing) f g same a h = cc
record_same (Some (Picks cs)) f g same a h = cc
record_same (Some (Ended i)) f g same a h = same i a h

own : {A : Type 0} (o : Option A) → Same o o
own o a h = h

-- the values of a subtree
abbrev MeansSame : {T : Type 0} → Environment T → Environment T → Expr T → Type 0
MeansSame v w e = (at leaf : ℕ) → Same ((meant v e).value at leaf) ((meant w e).value at leaf)

row_same : {T : Type 0} (v w : Environment T) (es : List (Expr T)) → Each (MeansSame v w) es → (at leaf : ℕ) → Same (in_order (map (meant v) es) at leaf) (in_order (map (meant w) es) at leaf)
row_same v w [] kids at leaf = own (Some [])
row_same {T} v w (e ∷ es) kids at leaf =
    then_same (λ s. option_map (λ ss. s ∷ ss) (in_order (map (meant v) es) (at + (meant v e).nodes) (leaf + (meant v e).leaves)))
    (λ s. option_map (λ ss. s ∷ ss) (in_order (map (meant w) es) (at + (meant w e).nodes) (leaf + (meant w e).leaves)))
    ((meant v e).value at leaf) ((meant w e).value at leaf)
    (λ s. map_same (λ ss. s ∷ ss) (in_order (map (meant v) es) (at + (meant v e).nodes) (leaf + (meant v e).leaves)) (in_order (map (meant w) es) (at + (meant w e).nodes) (leaf + (meant w e).leaves))
    (others (row_same v w es kids.1 (at + (meant v e).nodes) (leaf + (meant v e).leaves))))
    (kids.0 at leaf)
  where
    nodes_same : (meant v e).nodes ≡ (meant w e).nodes
    nodes_same = meant_nodes v e ∙ sym (meant_nodes w e)

    leaves_same : (meant v e).leaves ≡ (meant w e).leaves
    leaves_same = meant_leaves v e ∙ sym (meant_leaves w e)

    others : Same (in_order (map (meant v) es) (at + (meant v e).nodes) (leaf + (meant v e).leaves)) (in_order (map (meant w) es) (at + (meant v e).nodes) (leaf + (meant v e).leaves)) →
        Same (in_order (map (meant v) es) (at + (meant v e).nodes) (leaf + (meant v e).leaves)) (in_order (map (meant w) es) (at + (meant w e).nodes) (leaf + (meant w e).leaves))
    others same ss h =
        ap (λ n. in_order (map (meant w) es) n (leaf + (meant w e).leaves)) (ap (λ n. at + n) (sym nodes_same))
        ∙ ap (λ l. in_order (map (meant w) es) (at + (meant v e).nodes) l) (ap (λ n. leaf + n) (sym leaves_same))
        ∙ same ss h

-- one node over such children
abbrev NodeSame : {T : Type 0} → Environment T → Environment T → Expr-F T (Expr T) → Type 0
NodeSame {T} v w x =
    Each (MeansSame v w) (children x) → (at leaf : ℕ) →
    Same (node_value v (map-Expr T (Expr T) (Meant T) (meant v) x) at leaf) (node_value w (map-Expr T (Expr T) (Meant T) (meant w) x) at leaf)

node_same : {T : Type 0} (m : Meaning T) (hubs : List (Stream T)) (joins : List ℕ) (notes : List Note) (x : Expr-F T (Expr T)) → NodeSame (environment_until_stop m hubs joins notes) (environment m hubs joins notes) x
node_same {T} m hubs joins notes x kids at leaf = by x kids
  where
    v : Environment T
    v = environment_until_stop m hubs joins notes

    w : Environment T
    w = environment m hubs joins notes

    note : Option Note
    note = slice_get notes at

    of_quiet : {A : Type 0} (f : A → Stream T) (o p : Option A) → Same o p → Same (quiet note (option_map f o)) (quiet note (option_map f p))
    of_quiet f o p same = quiet_same note (option_map f o) (option_map f p) (map_same f o p same)

    of_chosen : {A : Type 0} (f g : List ℕ → A → Option (Stream T)) (o p : Option A) → ((cs : List ℕ) (a : A) → Same (f cs a) (g cs a)) → Same o p → Same (chosen note (λ cs. option_and_then (f cs) o)) (chosen note (λ cs. option_and_then (g cs) p))
    of_chosen f g o p fine same =
        chosen_same note (λ cs. option_and_then (f cs) o) (λ cs. option_and_then (g cs) p) (λ cs. then_same (f cs) (g cs) o p (fine cs) same)

    row : (es : List (Expr T)) → Each (MeansSame v w) es → Same (in_order (map (meant v) es) (at + 1) leaf) (in_order (map (meant w) es) (at + 1) leaf)
    row es k = row_same v w es k (at + 1) leaf

    by : (x : Expr-F T (Expr T)) → Each (MeansSame v w) (children x) → Same (node_value v (map-Expr T (Expr T) (Meant T) (meant v) x) at leaf) (node_value w (map-Expr T (Expr T) (Meant T) (meant w) x) at leaf)
    by (layer.Items l) k = λ s h. h
    by (layer.Range a n) k = λ s h. h
    by (layer.Hub h) k = λ s h. h
    by (layer.Plain g b) k = of_quiet (plain m g) ((meant v b.value).value (at + 1) leaf) ((meant w b.value).value (at + 1) leaf) (k.0 (at + 1) leaf)
    by (layer.Concat l) k = of_quiet concat (in_order (map (meant v) l.items) (at + 1) leaf) (in_order (map (meant w) l.items) (at + 1) leaf) (row l.items k)
    by (layer.Merge p l) k = of_chosen merge merge (in_order (map (meant v) l.items) (at + 1) leaf) (in_order (map (meant w) l.items) (at + 1) leaf) (λ cs vs. own (merge cs vs)) (row l.items k)
    by (layer.MergeDelay p l) k = of_chosen merge_delay merge_delay (in_order (map (meant v) l.items) (at + 1) leaf) (in_order (map (meant w) l.items) (at + 1) leaf) (λ cs vs. own (merge_delay cs vs)) (row l.items k)
    by (layer.Zip p l) k =
        record_same note (λ i. option_and_then (zip m.row_of i) (in_order (map (meant v) l.items) (at + 1) leaf)) (λ i. option_and_then (zip m.row_of i) (in_order (map (meant w) l.items) (at + 1) leaf))
        (λ i. then_same (zip m.row_of i) (zip m.row_of i) (in_order (map (meant v) l.items) (at + 1) leaf) (in_order (map (meant w) l.items) (at + 1) leaf) (λ vs. own (zip m.row_of i vs)) (row l.items k))
    by (layer.Latest p l) k =
        of_chosen (latest_until_stop m.row_of) (combine_latest m.row_of) (in_order (map (meant v) l.items) (at + 1) leaf) (in_order (map (meant w) l.items) (at + 1) leaf) (λ cs vs. latest_same m.row_of cs vs) (row l.items k)
    by (layer.Group f gs b) k =
        of_chosen (group_by m f gs.items) (group_by m f gs.items) ((meant v b.value).value (at + 1) leaf) ((meant w b.value).value (at + 1) leaf) (λ cs s. own (group_by m f gs.items cs s)) (k.0 (at + 1) leaf)
    by (layer.Window n gs b) k = of_quiet (window m n gs.items) ((meant v b.value).value (at + 1) leaf) ((meant w b.value).value (at + 1) leaf) (k.0 (at + 1) leaf)
    by (layer.Flat f c gs b) k =
        of_chosen (flat_map m f gs.items) (flat_map m f gs.items) ((meant v b.value).value (at + 1) leaf) ((meant w b.value).value (at + 1) leaf) (λ cs s. own (flat_map m f gs.items cs s)) (k.0 (at + 1) leaf)
    by (layer.FlatDelay f c gs b) k =
        of_chosen (flat_map_delay m f gs.items) (flat_map_delay m f gs.items) ((meant v b.value).value (at + 1) leaf) ((meant w b.value).value (at + 1) leaf) (λ cs s. own (flat_map_delay m f gs.items cs s)) (k.0 (at + 1) leaf)
    by (layer.On j p b) k = quiet_same note ((meant v b.value).value (at + 1) leaf) ((meant w b.value).value (at + 1) leaf) (k.0 (at + 1) leaf)
    by (layer.OnEager j p b) k = of_chosen eager_of eager_of ((meant v b.value).value (at + 1) leaf) ((meant w b.value).value (at + 1) leaf) (λ cs s. own (eager_of cs s)) (k.0 (at + 1) leaf)

pub means_same : {T : Type 0} (m : Meaning T) (hubs : List (Stream T)) (joins : List ℕ) (notes : List Note) (e : Expr T) → MeansSame (environment_until_stop m hubs joins notes) (environment m hubs joins notes) e
means_same {T} m hubs joins notes = by_children (MeansSame v w) (λ e kids at leaf s h.
    value_out w e at leaf ∙ node_same m hubs joins notes (out-Expr T e) kids at leaf s (sym (value_out v e at leaf) ∙ h))
  where
    v : Environment T
    v = environment_until_stop m hubs joins notes

    w : Environment T
    w = environment m hubs joins notes

-- the value of a whole expression
pub until_stop_law : {T : Type 0} (m : Meaning T) (hubs : List (Stream T)) (joins : List ℕ) (notes : List Note) (e : Expr T) (s : Stream T) → eval (environment_until_stop m hubs joins notes) e ≡ Some s → eval (environment m hubs joins notes) e ≡ Some s
until_stop_law m hubs joins notes e s h = means_same m hubs joins notes e 0 0 s h
