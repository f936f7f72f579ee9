-- The senders of an expression's edges that cross: node by node, and how many they are.
use Rattle.std.proofs.Common.{◌≡◌, ℕ, zero, suc, ◌+◌, ◌*◌, ◌<◌, ◌≤◌, Bool, true, false, if◌then◌else◌, List, [], ◌∷◌, ◌++◌, length, map, drop, get_or, Result, Ok, Err, OnOk, refl, ap, sym, ◌∙◌, append_assoc, length-append, arith}
use Rattle.std.proofs.lemmas.List.{append-nil}
use Rattle.rsx_model.proofs.Unfold.{Each, by_children, children-map}
use Rattle.rsx_model.specs.Region.{region_from, region_of, worker_here}
use Rattle.rsx_model.specs.Shape.{children, nodes, sum_of}
use Rattle.rsx_model.specs.declared.expr.Expr.{Expr}
use Rattle.rsx_model.specs.declared.expr.Expr.TheFolds.{fold-Expr, fold_out-Expr, map-Expr}
use Rattle.rsx_model.specs.declared.expr.Expr.TheOpen.{Expr-F}
use Rattle.rsx_model.specs.declared.expr.Expr.TheOpen as layer
use Rattle.rsx_model.specs.declared.expr.Expr.TheViews.{out-Expr}
use Rattle.rsx_rooted.proofs.Leaves.{sum_front}
use Rattle.rsx_rooted.specs.Crossings.{Placed, crossings, differ, placed, placed_beside, placed_in}
use Rattle.rsx_tree.specs.declared.node.Node.{Node}
use Rattle.rsx_graph_calls.specs.Senders.{HaveOneEach, Sending, all_senders, how_many, sender_over, senders_beside, senders_into, sending, sending_in}

-- ---- one level of an expression, of what is known of each node by its region and by what is known of its children

same_worker : {T A B : Type 0} (h : A → B) (x : Expr-F T A) → worker_here (map-Expr T A B h x) ≡ worker_here x
same_worker h (layer.Items v) = refl
same_worker h x = refl

abbrev Here : {T R : Type 0} → (R → ℕ) → (ℕ → List R → R) → Expr-F T R → R
Here region node x = node (region_from (worker_here x) (map region (children x))) (children x)

abbrev Walk : {T R : Type 0} → (R → ℕ) → (ℕ → List R → R) → Expr T → R
Walk {T} {R} region node = fold-Expr T R (Here region node)

-- that region is the node's own
abbrev IsOwn : {R : Type 0} → (R → ℕ) → (ℕ → List R → R) → Type 0
IsOwn {R} region node = (r : ℕ) (rs : List R) → region (node r rs) ≡ r

walk_from : {T R : Type 0} (region : R → ℕ) (node : ℕ → List R → R) (e : Expr T) →
    Walk region node e ≡ node (region_from (worker_here (out-Expr T e)) (map region (map (Walk region node) (children (out-Expr T e))))) (map (Walk region node) (children (out-Expr T e)))
walk_from {T} {R} region node e =
    let all = children (map-Expr T (Expr T) R (Walk region node) (out-Expr T e)) in
    fold_out-Expr T R (Here region node) e
    ∙ (ap (λ w. node (region_from w (map region all)) all) (same_worker (Walk region node) (out-Expr T e))
    ∙ ap (λ rs. node (region_from (worker_here (out-Expr T e)) (map region rs)) rs) (children-map (Walk region node) (out-Expr T e)))

region_out : {T : Type 0} (e : Expr T) → region_of e ≡ region_from (worker_here (out-Expr T e)) (map region_of (children (out-Expr T e)))
region_out {T} e =
    fold_out-Expr T ℕ (λ x. region_from (worker_here x) (children x)) e
    ∙ (ap (λ w. region_from w (children (map-Expr T (Expr T) ℕ region_of (out-Expr T e)))) (same_worker region_of (out-Expr T e))
    ∙ ap (region_from (worker_here (out-Expr T e))) (children-map region_of (out-Expr T e)))

all_regions : {T R : Type 0} (region : R → ℕ) (f : Expr T → R) (es : List (Expr T)) → Each (λ e. region (f e) ≡ region_of e) es → map region (map f es) ≡ map region_of es
all_regions region f [] k = refl
all_regions region f (e ∷ es) k = ap (λ r. r ∷ map region (map f es)) k.0 ∙ ap (λ rs. region_of e ∷ rs) (all_regions region f es k.1)

walk_region : {T R : Type 0} (region : R → ℕ) (node : ℕ → List R → R) → IsOwn region node → (e : Expr T) → region (Walk region node e) ≡ region_of e
walk_region {T} region node own = by_children (λ e. region (Walk region node e) ≡ region_of e) (λ e kids.
    ap region (walk_from region node e)
    ∙ (own _ _
    ∙ (ap (region_from (worker_here (out-Expr T e))) (all_regions region (Walk region node) (children (out-Expr T e)) kids) ∙ sym (region_out e))))

walk_out : {T R : Type 0} (region : R → ℕ) (node : ℕ → List R → R) → IsOwn region node → (e : Expr T) → Walk region node e ≡ node (region_of e) (map (Walk region node) (children (out-Expr T e)))
walk_out {T} region node own e =
    let from = walk_from region node e in
    from ∙ ap (λ r. node r (map (Walk region node) (children (out-Expr T e)))) (sym (own _ _) ∙ (ap region (sym from) ∙ walk_region region node own e))

-- ---- the senders

sending_region : {T : Type 0} (e : Expr T) → (sending e).region ≡ region_of e
sending_region e = walk_region (λ (s : Sending). s.region) sending_in (λ r rs. refl) e

sending_out : {T : Type 0} (e : Expr T) → (sending e).senders ≡ senders_beside (region_of e) (map sending (children (out-Expr T e)))
sending_out e = ap (λ (s : Sending). s.senders) (walk_out (λ (s : Sending). s.region) sending_in (λ r rs. refl) e)

beside_all : {T : Type 0} (r : ℕ) (es : List (Expr T)) → senders_beside r (map sending es) ≡ all_senders r es
beside_all r [] = refl
beside_all r (e ∷ es) =
    ap (λ q. sender_over r q ++ ((sending e).senders ++ senders_beside r (map sending es))) (sending_region e)
    ∙ (ap (λ l. sender_over r (region_of e) ++ ((sending e).senders ++ l)) (beside_all r es)
    ∙ sym (append_assoc (sender_over r (region_of e)) (sending e).senders (all_senders r es)))

-- those of an edge over a node with these children
pub senders_out : {T : Type 0} (r : ℕ) (e : Expr T) (es : List (Expr T)) → children (out-Expr T e) ≡ es → senders_into r e ≡ sender_over r (region_of e) ++ all_senders (region_of e) es
senders_out r e es is = ap (λ l. sender_over r (region_of e) ++ l) (sending_out e ∙ (beside_all (region_of e) (children (out-Expr _ e)) ∙ ap (all_senders (region_of e)) is))

-- ---- as they are put one behind the other

pub on_ok : {A E P Q : Type 0} (r : Result A E) → OnOk r P → (P → Q) → OnOk r Q
on_ok (Ok a) p k = k p
on_ok (Err e) p k = tt

-- an expression's own, from this region, and those of the edges below it
pub added_all : {T : Type 0} (olds mids news : List ℕ) (r q : ℕ) (e : Expr T) (es : List (Expr T)) → es ≡ children (out-Expr T e) → q ≡ region_of e → mids ≡ olds ++ sender_over r q → news ≡ mids ++ all_senders q es → news ≡ olds ++ senders_into r e
added_all olds mids news r q e es kids is own all =
    all
    ∙ (ap (λ l. l ++ all_senders q es) own
    ∙ (append_assoc olds (sender_over r q) (all_senders q es)
    ∙ ap (λ l. olds ++ l) (ap (λ x. sender_over r x ++ all_senders x es) is ∙ sym (senders_out r e es (sym kids)))))

pub added_one_below : {T : Type 0} (olds mids news : List ℕ) (r q : ℕ) (e x : Expr T) → x ∷ [] ≡ children (out-Expr T e) → q ≡ region_of e → mids ≡ olds ++ sender_over r q → news ≡ mids ++ senders_into q x → news ≡ olds ++ senders_into r e
added_one_below olds mids news r q e x kids is own one = added_all olds mids news r q e (x ∷ []) kids is own (one ∙ ap (λ l. mids ++ l) (sym (append-nil (senders_into q x))))

-- those of the next input, and of the inputs behind it
pub added_next : {T : Type 0} (olds mids goal : List ℕ) (r : ℕ) (es : List (Expr T)) (i : ℕ) (e : Expr T) → drop i es ≡ e ∷ drop (i + 1) es → olds ++ all_senders r (drop i es) ≡ goal → mids ≡ olds ++ senders_into r e → mids ++ all_senders r (drop (i + 1) es) ≡ goal
added_next olds mids goal r es i e is so_far added =
    ap (λ l. l ++ all_senders r (drop (i + 1) es)) added
    ∙ (append_assoc olds (senders_into r e) (all_senders r (drop (i + 1) es)) ∙ (ap (λ l. olds ++ all_senders r l) (sym is) ∙ so_far))

-- ---- how many they are

how_many-append : (xs ys : List Bool) → how_many (xs ++ ys) ≡ how_many xs + how_many ys
how_many-append [] ys = omega arith
how_many-append (x ∷ xs) ys = let k = how_many-append xs ys in omega (arith, k)

abbrev one_if : Bool → ℕ
one_if b = if b then 1 else 0

one_sender : (b : Bool) (q : ℕ) → one_if b ≡ length (if b then q ∷ [] else [])
one_sender true q = refl
one_sender false q = refl

abbrev AsMany : {T : Type 0} → Expr T → Type 0
AsMany e = how_many (placed e).crossings ≡ length (sending e).senders

placed_region : {T : Type 0} (e : Expr T) → (placed e).region ≡ region_of e
placed_region e = walk_region (λ (p : Placed). p.region) placed_in (λ r rs. refl) e

placed_out : {T : Type 0} (e : Expr T) → (placed e).crossings ≡ placed_beside (region_of e) (map placed (children (out-Expr T e)))
placed_out e = ap (λ (p : Placed). p.crossings) (walk_out (λ (p : Placed). p.region) placed_in (λ r rs. refl) e)

as_many_beside : {T : Type 0} (r : ℕ) (es : List (Expr T)) → Each AsMany es → how_many (placed_beside r (map placed es)) ≡ length (senders_beside r (map sending es))
as_many_beside r [] k = refl
as_many_beside {T} r (e ∷ es) k =
    let rest = as_many_beside r es k.1 in
    let below = k.0 in
    let same : one_if (differ r (placed e).region) ≡ length (sender_over r (sending e).region) =
    ap (λ q. one_if (differ r q)) (placed_region e) ∙ (one_sender (differ r (region_of e)) (region_of e) ∙ ap (λ q. length (sender_over r q)) (sym (sending_region e))) in
    let crossed = how_many-append (placed e).crossings (placed_beside r (map placed es)) in
    let sent = length-append (sending e).senders (senders_beside r (map sending es)) in
    let all = length-append (sender_over r (sending e).region) ((sending e).senders ++ senders_beside r (map sending es)) in
    omega (arith, rest, below, same, crossed, sent, all)

as_many : {T : Type 0} (e : Expr T) → AsMany e
as_many {T} = by_children AsMany (λ e kids.
    ap how_many (placed_out e) ∙ (as_many_beside (region_of e) (children (out-Expr T e)) kids ∙ sym (ap length (sending_out e))))

pub one_each : {M T : Type 0} (crosses : M → Bool) (r : ℕ) (e : Expr T) (t : Node M) → HaveOneEach crosses r e t
one_each crosses r e t = λ p.
    let root : one_if (crosses t.machine) ≡ one_if (differ r (region_of e)) = ap one_if p.root in
    let here = one_sender (differ r (region_of e)) (region_of e) in
    let below : how_many (crossings crosses t.inputs) ≡ length (sending e).senders = ap how_many p.below ∙ as_many e in
    let all = length-append (sender_over r (region_of e)) (sending e).senders in
    omega (arith, root, here, below, all)

-- ---- how far the walk goes down

dropped_le : {A : Type 0} (f : A → ℕ) (i : ℕ) (xs : List A) → sum_of (map f (drop i xs)) ≤ sum_of (map f xs)
dropped_le f zero xs = omega arith
dropped_le f (suc i) [] = omega arith
dropped_le f (suc i) (x ∷ xs) = let others = dropped_le f i xs in omega arith

-- an expression of several has no more nodes than they have together
pub input_smaller : {T : Type 0} (es : List (Expr T)) (i : ℕ) (e : Expr T) → i < length es → e ≡ get_or es i e → 2 * nodes e < 2 * sum_of (map nodes es) + 1
input_smaller es i e within is =
    let here = sum_front nodes es i e within is in
    let others = dropped_le nodes i es in
    omega arith
