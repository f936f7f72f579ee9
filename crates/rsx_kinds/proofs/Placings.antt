-- Which edges of a tree that was made have a queue.
use Rattle.std.proofs.Common.{◌≡◌, inl, inr, ℕ, Bool, true, false, ◌||◌, nat_eq, List, [], ◌∷◌, ◌++◌, map, refl, ap, sym, ◌∙◌, subst, Option, Some, None, Result, Ok, Err, Box, Vec, Global}
use Rattle.std.specs.Prelude.{IfOk, ℤ}
use Rattle.std.proofs.lemmas.Bool.{eq-eqb}
use Rattle.rsx_sources.specs.Prelude.{NoMemory, HubId, Stage}
use Rattle.rsx_kinds.specs.Prelude.{AnyNode, ArePlaced, End, Expr, Expr-F, Inputs, IsAlone, IsCrossed, IsInFront, IsOverOne, IsPlaced, IsPlacedOver, IsPlainOver, More', Node, Placed, TreeNode, children, crossings, differ, fold_out-Expr, fresh_crossings, is_crossing, map-Expr, opposite, placed, placed_beside, placed_here, placed_in, plain_ended, region_from, region_of, worker_here}
use Rattle.rsx_model.specs.declared.expr.Expr.TheOpen as layer
use Rattle.rsx_model.specs.declared.expr.Expr.TheViews.{Plain as PlainOf, Concat as ConcatOf, Merge as MergeOf, MergeDelay as MergeDelayOf, Zip as ZipOf, Latest as LatestOf, Group as GroupOf, Window as WindowOf, Flat as FlatOf, FlatDelay as FlatDelayOf, On as OnOf, OnEager as OnEagerOf, out-Expr, outs-Items, outs-Range, outs-Hub, outs-Plain, outs-Concat, outs-Merge, outs-MergeDelay, outs-Zip, outs-Latest, outs-Group, outs-Window, outs-Flat, outs-FlatDelay, outs-On, outs-OnEager}
use Rattle.rsx_model.specs.declared.expr.Expr.TheVariants.{Items as ItemsOf, Range as RangeOf, Hub as HubOf}
use Rattle.rsx_model.proofs.Unfold.{Each, by_children, children-map}
use Rattle.rsx_tree.specs.Prelude.{closed_row, closed_row_if, IsJoined}

-- ---- one level of an expression

worker_here-map : {T A B : Type 0} (h : A → B) (x : Expr-F T A) → worker_here (map-Expr T A B h x) ≡ worker_here x
worker_here-map h (layer.Items v) = refl
worker_here-map h x = refl

abbrev regions : List Placed → List ℕ
regions ps = map (λ p. p.region) ps

abbrev placed_by : Option ℕ → List Placed → Placed
placed_by w ps = placed_in (region_from w (regions ps)) ps

placed_out : {T : Type 0} (e : Expr T) → placed e ≡ placed_by (worker_here (out-Expr T e)) (map placed (children (out-Expr T e)))
placed_out {T} e =
    fold_out-Expr T Placed placed_here e
    ∙ (ap (λ w. placed_by w (children (map-Expr T (Expr T) Placed placed (out-Expr T e)))) (worker_here-map placed (out-Expr T e))
    ∙ ap (placed_by (worker_here (out-Expr T e))) (children-map placed (out-Expr T e)))

region_out : {T : Type 0} (e : Expr T) → region_of e ≡ region_from (worker_here (out-Expr T e)) (map region_of (children (out-Expr T e)))
region_out {T} e =
    fold_out-Expr T ℕ (λ x. region_from (worker_here x) (children x)) e
    ∙ (ap (λ w. region_from w (children (map-Expr T (Expr T) ℕ region_of (out-Expr T e)))) (worker_here-map region_of (out-Expr T e))
    ∙ ap (region_from (worker_here (out-Expr T e))) (children-map region_of (out-Expr T e)))

-- the region is that of the expression
regions_of : {T : Type 0} (es : List (Expr T)) → Each (λ e. (placed e).region ≡ region_of e) es → regions (map placed es) ≡ map region_of es
regions_of [] h = refl
regions_of (e ∷ es) h = ap (λ r. r ∷ regions (map placed es)) h.0 ∙ ap (λ rs. region_of e ∷ rs) (regions_of es h.1)

placed_region : {T : Type 0} (e : Expr T) → (placed e).region ≡ region_of e
placed_region {T} = by_children (λ e. (placed e).region ≡ region_of e) (λ e kids.
    ap (λ p. p.region) (placed_out e) ∙ (ap (region_from (worker_here (out-Expr T e))) (regions_of (children (out-Expr T e)) kids) ∙ sym (region_out e)))

-- the edges below the root, where the children are these
fresh_out : {T : Type 0} (e : Expr T) (es : List (Expr T)) → children (out-Expr T e) ≡ es → fresh_crossings e ≡ placed_beside (region_of e) (map placed es)
fresh_out {T} e es is =
    let ps = map placed (children (out-Expr T e)) in
    let r = ap (λ p. p.region) (placed_out e) in
    ap (λ p. p.crossings) (placed_out e)
    ∙ (ap (λ k. placed_beside k ps) (sym r ∙ placed_region e) ∙ ap (λ l. placed_beside (region_of e) (map placed l)) is)

-- ---- a row

crossings_closed : {T : Type 0} (t : Inputs (TreeNode T)) → crossings (closed_row t) ≡ crossings t
crossings_closed End = refl
crossings_closed (More' e n p below q beside) = rw (crossings_closed below, crossings_closed beside) refl

crossings_closed_if : {T : Type 0} (c : Bool) (t : Inputs (TreeNode T)) → crossings (closed_row_if c t) ≡ crossings t
crossings_closed_if true t = crossings_closed t
crossings_closed_if false t = refl

-- one more tree in front
pub placed_more : {T : Type 0} (r : ℕ) (all : List (Expr T)) (x : Expr T) (xs : List (Expr T)) (below : Node (TreeNode T)) (beside row : Inputs (TreeNode T)) →
    all ≡ x ∷ xs → IsPlaced x (differ r (region_of x)) below → ArePlaced r xs beside → IsJoined below beside row → ArePlaced r all row
placed_more {T} r all x xs below beside row all_is first rest j =
    ap crossings j.row_is
    ∙ (ap (λ c. c ∷ (crossings below.inputs ++ crossings beside)) (first.root ∙ ap (differ r) (sym (placed_region x)))
    ∙ (ap (λ l. differ r (placed x).region ∷ (l ++ crossings beside)) first.below
    ∙ (ap (λ l. differ r (placed x).region ∷ (fresh_crossings x ++ l)) rest ∙ ap (λ l. placed_beside r (map placed l)) (sym all_is))))

-- ---- a tree

-- a node over a row of trees for a node in its region
pub placed_over : {T : Type 0} (e : Expr T) (es : List (Expr T)) (t : Node (TreeNode T)) (row : Inputs (TreeNode T)) (c : Bool) →
    children (out-Expr T e) ≡ es → ArePlaced (region_of e) es row → is_crossing t.machine ≡ false → t.inputs ≡ closed_row_if c row → IsPlaced e false t
placed_over e es t row c kids w direct is = record { root = direct; below = ap crossings is ∙ (crossings_closed_if c row ∙ (w ∙ sym (fresh_out e es kids))) }

-- a node over one tree
pub placed_one : {T : Type 0} (e x : Expr T) (below t : Node (TreeNode T)) (row : Inputs (TreeNode T)) (c crosses : Bool) →
    children (out-Expr T e) ≡ x ∷ [] → IsPlaced x crosses below → crosses ≡ differ (region_of e) (region_of x) → IsJoined below End row → is_crossing t.machine ≡ false → t.inputs ≡ closed_row_if c row → IsPlaced e false t
placed_one {T} e x below t row c crosses kids w same j direct is =
    let P : Bool → Type 0 = λ b. IsPlaced x b below in
    placed_over e (x ∷ []) t row c kids (placed_more (region_of e) (x ∷ []) x [] below End row refl (subst P same w) refl j) direct is

-- it is in the region of that tree where it names no worker
same_differ : (r q : ℕ) → r ≡ q → false ≡ differ r q
same_differ r q e = ap opposite (sym (eq-eqb q q refl) ∙ ap (λ k. nat_eq k q) (sym e))

pub placed_inside : {T : Type 0} (e x : Expr T) (below t : Node (TreeNode T)) (row : Inputs (TreeNode T)) (c : Bool) →
    worker_here (out-Expr T e) ≡ None → children (out-Expr T e) ≡ x ∷ [] → IsPlaced x false below → IsJoined below End row → is_crossing t.machine ≡ false → t.inputs ≡ closed_row_if c row → IsPlaced e false t
placed_inside {T} e x below t row c alone kids w j direct is =
    let region_is : region_of e ≡ region_of x = region_out e ∙ (ap (λ o. region_from o (map region_of (children (out-Expr T e)))) alone ∙ ap (λ l. region_from None (map region_of l)) kids) in
    placed_one e x below t row c false kids w (same_differ (region_of e) (region_of x) region_is) j direct is

-- a source
pub placed_alone : {T : Type 0} (e : Expr T) (t : Node (TreeNode T)) → children (out-Expr T e) ≡ [] → is_crossing t.machine ≡ false → t.inputs ≡ End → IsPlaced e false t
placed_alone e t kids direct is = record { root = direct; below = ap crossings is ∙ sym (fresh_out e [] kids) }

-- ---- the tree of each kind of expression, unless memory ran out

-- what holds of one holds of the other, where they are one
kids_are : {T : Type 0} (e x : Expr T) (es : List (Expr T)) → e ≡ x → children (out-Expr T x) ≡ es → children (out-Expr T e) ≡ es
kids_are {T} e x es is h = ap (λ y. children (out-Expr T y)) is ∙ h

worker_is : {T : Type 0} (e x : Expr T) (w : Option ℕ) → e ≡ x → worker_here (out-Expr T x) ≡ w → worker_here (out-Expr T e) ≡ w
worker_is {T} e x w is h = ap (λ y. worker_here (out-Expr T y)) is ∙ h

in_place : {T : Type 0} (x input : Expr T) (b : Bool) (t : Node (TreeNode T)) → input ≡ x → IsPlaced input b t → IsPlaced x b t
in_place {T} x input b t is h = subst (λ (y : Expr T). IsPlaced y b t) is h

alone_if : {T E : Type 0} (e : Expr T) (r : Result (Node (TreeNode T)) E) → children (out-Expr T e) ≡ [] → IfOk r (λ t. IsAlone t) → IfOk r (λ t. IsPlaced e false t)
alone_if e (Ok t) kids o = placed_alone e t kids o.root o.below
alone_if e (Err x) kids o = tt

pub placed_Items : {T E : Type 0} (e : Expr T) (v : Vec T Global) (r : Result (Node (TreeNode T)) E) → e ≡ ItemsOf v → IfOk r (λ t. IsAlone t) → IfOk r (λ t. IsPlaced e false t)
placed_Items e v r is o = alone_if e r (kids_are e (ItemsOf v) [] is (rw (outs-Items) refl)) o

pub placed_Range : {T E : Type 0} (e : Expr T) (a : ℤ) (n : ℕ) (r : Result (Node (TreeNode T)) E) → e ≡ RangeOf a n → IfOk r (λ t. IsAlone t) → IfOk r (λ t. IsPlaced e false t)
placed_Range e a n r is o = alone_if e r (kids_are e (RangeOf a n) [] is (rw (outs-Range) refl)) o

pub placed_Hub : {T E : Type 0} (e : Expr T) (h : HubId) (r : Result (Node (TreeNode T)) E) → e ≡ HubOf h → IfOk r (λ t. IsAlone t) → IfOk r (λ t. IsPlaced e false t)
placed_Hub e h r is o = alone_if e r (kids_are e (HubOf h) [] is (rw (outs-Hub) refl)) o

pub placed_Plain : {T E : Type 0} (e : Expr T) (g : Stage T) (box : Box (Expr T) Global) (input : Expr T) (below : Node (TreeNode T)) (r : Result (Node (TreeNode T)) E) →
    e ≡ PlainOf g box → input ≡ box.value → IsPlaced input false below → IfOk r (λ t. IsPlainOver g below t) → IfOk r (λ t. IsPlaced e false t)
placed_Plain e g box input below (Ok t) is in_box w o =
    placed_inside e box.value below t o.row (plain_ended o.node) (worker_is e (PlainOf g box) None is (rw (outs-Plain) refl)) (kids_are e (PlainOf g box) (box.value ∷ []) is (rw (outs-Plain) refl)) (in_place box.value input false below in_box w) o.joined (ap is_crossing o.machine) o.inputs
placed_Plain e g box input below (Err x) is in_box w o = tt

one_if : {T : Type 0} (e x : Expr T) (input : Expr T) (made : Result (AnyNode T) NoMemory) (below : Node (TreeNode T)) (r : Result (Node (TreeNode T)) NoMemory) →
    worker_here (out-Expr T e) ≡ None → children (out-Expr T e) ≡ x ∷ [] → input ≡ x → IsPlaced input false below → IfOk r (λ t. IsOverOne made below t) → IfOk r (λ t. IsPlaced e false t)
one_if e x input made below (Ok t) alone kids in_box w o = placed_inside e x below t o.row false alone kids (in_place x input false below in_box w) o.joined (ap is_crossing o.machine) o.inputs
one_if e x input made below (Err y) alone kids in_box w o = tt

pub placed_Group : {T : Type 0} (e : Expr T) (f : ℕ) (gs : Vec (Stage T) Global) (box : Box (Expr T) Global) (input : Expr T) (made : Result (AnyNode T) NoMemory) (below : Node (TreeNode T)) (r : Result (Node (TreeNode T)) NoMemory) →
    e ≡ GroupOf f gs box → input ≡ box.value → IsPlaced input false below → IfOk r (λ t. IsOverOne made below t) → IfOk r (λ t. IsPlaced e false t)
placed_Group e f gs box input made below r is in_box w o =
    one_if e box.value input made below r (worker_is e (GroupOf f gs box) None is (rw (outs-Group) refl)) (kids_are e (GroupOf f gs box) (box.value ∷ []) is (rw (outs-Group) refl)) in_box w o

pub placed_Window : {T : Type 0} (e : Expr T) (n : ℕ) (gs : Vec (Stage T) Global) (box : Box (Expr T) Global) (input : Expr T) (made : Result (AnyNode T) NoMemory) (below : Node (TreeNode T)) (r : Result (Node (TreeNode T)) NoMemory) →
    e ≡ WindowOf n gs box → input ≡ box.value → IsPlaced input false below → IfOk r (λ t. IsOverOne made below t) → IfOk r (λ t. IsPlaced e false t)
placed_Window e n gs box input made below r is in_box w o =
    one_if e box.value input made below r (worker_is e (WindowOf n gs box) None is (rw (outs-Window) refl)) (kids_are e (WindowOf n gs box) (box.value ∷ []) is (rw (outs-Window) refl)) in_box w o

pub placed_Flat : {T : Type 0} (e : Expr T) (f c : ℕ) (gs : Vec (Stage T) Global) (box : Box (Expr T) Global) (input : Expr T) (made : Result (AnyNode T) NoMemory) (below : Node (TreeNode T)) (r : Result (Node (TreeNode T)) NoMemory) →
    e ≡ FlatOf f c gs box → input ≡ box.value → IsPlaced input false below → IfOk r (λ t. IsOverOne made below t) → IfOk r (λ t. IsPlaced e false t)
placed_Flat e f c gs box input made below r is in_box w o =
    one_if e box.value input made below r (worker_is e (FlatOf f c gs box) None is (rw (outs-Flat) refl)) (kids_are e (FlatOf f c gs box) (box.value ∷ []) is (rw (outs-Flat) refl)) in_box w o

pub placed_FlatDelay : {T : Type 0} (e : Expr T) (f c : ℕ) (gs : Vec (Stage T) Global) (box : Box (Expr T) Global) (input : Expr T) (made : Result (AnyNode T) NoMemory) (below : Node (TreeNode T)) (r : Result (Node (TreeNode T)) NoMemory) →
    e ≡ FlatDelayOf f c gs box → input ≡ box.value → IsPlaced input false below → IfOk r (λ t. IsOverOne made below t) → IfOk r (λ t. IsPlaced e false t)
placed_FlatDelay e f c gs box input made below r is in_box w o =
    one_if e box.value input made below r (worker_is e (FlatDelayOf f c gs box) None is (rw (outs-FlatDelay) refl)) (kids_are e (FlatDelayOf f c gs box) (box.value ∷ []) is (rw (outs-FlatDelay) refl)) in_box w o

-- the tree of the input of a `publishOn` or `publishOnEager` has a queue where its region isn't that of the worker
pub placed_On : {T : Type 0} (e : Expr T) (k p : ℕ) (box : Box (Expr T) Global) (input : Expr T) (made : Result (AnyNode T) NoMemory) (below : Node (TreeNode T)) (r : Result (Node (TreeNode T)) NoMemory) →
    e ≡ OnOf k p box → input ≡ box.value → IsPlaced input (differ k (region_of input)) below → IfOk r (λ t. IsOverOne made below t) → IfOk r (λ t. IsPlaced e false t)
placed_On {T} e k p box input made below (Ok t) is in_box w o =
    let kids = kids_are e (OnOf k p box) (box.value ∷ []) is (rw (outs-On) refl) in
    let region_is : region_of e ≡ k = region_out e ∙ ap (λ o. region_from o (map region_of (children (out-Expr T e)))) (worker_is e (OnOf k p box) (Some k) is (rw (outs-On) refl)) in
    placed_one e box.value below t o.row false (differ k (region_of input)) kids (in_place box.value input (differ k (region_of input)) below in_box w)
    (ap (λ j. differ j (region_of input)) (sym region_is) ∙ ap (λ x. differ (region_of e) (region_of x)) in_box) o.joined (ap is_crossing o.machine) o.inputs
placed_On e k p box input made below (Err x) is in_box w o = tt

pub placed_OnEager : {T : Type 0} (e : Expr T) (k p : ℕ) (box : Box (Expr T) Global) (input : Expr T) (made : Result (AnyNode T) NoMemory) (below : Node (TreeNode T)) (r : Result (Node (TreeNode T)) NoMemory) →
    e ≡ OnEagerOf k p box → input ≡ box.value → IsPlaced input (differ k (region_of input)) below → IfOk r (λ t. IsOverOne made below t) → IfOk r (λ t. IsPlaced e false t)
placed_OnEager {T} e k p box input made below (Ok t) is in_box w o =
    let kids = kids_are e (OnEagerOf k p box) (box.value ∷ []) is (rw (outs-OnEager) refl) in
    let region_is : region_of e ≡ k = region_out e ∙ ap (λ o. region_from o (map region_of (children (out-Expr T e)))) (worker_is e (OnEagerOf k p box) (Some k) is (rw (outs-OnEager) refl)) in
    placed_one e box.value below t o.row false (differ k (region_of input)) kids (in_place box.value input (differ k (region_of input)) below in_box w)
    (ap (λ j. differ j (region_of input)) (sym region_is) ∙ ap (λ x. differ (region_of e) (region_of x)) in_box) o.joined (ap is_crossing o.machine) o.inputs
placed_OnEager e k p box input made below (Err x) is in_box w o = tt

-- a node of several inputs
several_if : {T E : Type 0} (e : Expr T) (es : List (Expr T)) (r : Result (Node (TreeNode T)) E) → worker_here (out-Expr T e) ≡ None → children (out-Expr T e) ≡ es → IfOk r (λ t. IsPlacedOver es t) → IfOk r (λ t. IsPlaced e false t)
several_if {T} e es (Ok t) alone kids o =
    let r_is : region_of e ≡ region_from None (map region_of es) = region_out e ∙ (ap (λ w. region_from w (map region_of (children (out-Expr T e)))) alone ∙ ap (λ l. region_from None (map region_of l)) kids) in
    placed_over e es t t.inputs false kids (o.1 ∙ ap (λ r. placed_beside r (map placed es)) (sym r_is)) o.0 refl
several_if e es (Err x) alone kids o = tt

pub placed_Concat : {T E : Type 0} (e : Expr T) (v : Vec (Expr T) Global) (items : List (Expr T)) (r : Result (Node (TreeNode T)) E) → e ≡ ConcatOf v → items ≡ v.items → IfOk r (λ t. IsPlacedOver items t) → IfOk r (λ t. IsPlaced e false t)
placed_Concat e v items r is all o = several_if e items r (worker_is e (ConcatOf v) None is (rw (outs-Concat) refl)) (kids_are e (ConcatOf v) items is (rw (outs-Concat) (sym all))) o

pub placed_Merge : {T E : Type 0} (e : Expr T) (p : ℕ) (v : Vec (Expr T) Global) (items : List (Expr T)) (r : Result (Node (TreeNode T)) E) → e ≡ MergeOf p v → items ≡ v.items → IfOk r (λ t. IsPlacedOver items t) → IfOk r (λ t. IsPlaced e false t)
placed_Merge e p v items r is all o = several_if e items r (worker_is e (MergeOf p v) None is (rw (outs-Merge) refl)) (kids_are e (MergeOf p v) items is (rw (outs-Merge) (sym all))) o

pub placed_MergeDelay : {T E : Type 0} (e : Expr T) (p : ℕ) (v : Vec (Expr T) Global) (items : List (Expr T)) (r : Result (Node (TreeNode T)) E) → e ≡ MergeDelayOf p v → items ≡ v.items → IfOk r (λ t. IsPlacedOver items t) → IfOk r (λ t. IsPlaced e false t)
placed_MergeDelay e p v items r is all o = several_if e items r (worker_is e (MergeDelayOf p v) None is (rw (outs-MergeDelay) refl)) (kids_are e (MergeDelayOf p v) items is (rw (outs-MergeDelay) (sym all))) o

pub placed_Zip : {T E : Type 0} (e : Expr T) (p : ℕ) (v : Vec (Expr T) Global) (items : List (Expr T)) (r : Result (Node (TreeNode T)) E) → e ≡ ZipOf p v → items ≡ v.items → IfOk r (λ t. IsPlacedOver items t) → IfOk r (λ t. IsPlaced e false t)
placed_Zip e p v items r is all o = several_if e items r (worker_is e (ZipOf p v) None is (rw (outs-Zip) refl)) (kids_are e (ZipOf p v) items is (rw (outs-Zip) (sym all))) o

pub placed_Latest : {T E : Type 0} (e : Expr T) (p : ℕ) (v : Vec (Expr T) Global) (items : List (Expr T)) (r : Result (Node (TreeNode T)) E) → e ≡ LatestOf p v → items ≡ v.items → IfOk r (λ t. IsPlacedOver items t) → IfOk r (λ t. IsPlaced e false t)
placed_Latest e p v items r is all o = several_if e items r (worker_is e (LatestOf p v) None is (rw (outs-Latest) refl)) (kids_are e (LatestOf p v) items is (rw (outs-Latest) (sym all))) o

-- ---- a tree whose root may have a queue

pub placed_crossed : {T : Type 0} (e : Expr T) (made : Result (Node (TreeNode T)) NoMemory) (crosses : Bool) (t : Node (TreeNode T)) → IfOk made (λ x. IsPlaced e false x) → IsCrossed made crosses t → IsPlaced e crosses t
placed_crossed {T} e made crosses t w c =
    let there : IsPlaced e false c.tree = subst (λ r. IfOk r (λ (x : Node (TreeNode T)). IsPlaced e false x)) c.is w in
    let same : crossings t.inputs ≡ crossings c.tree.inputs = elim c.either [ inl is ↦ ap (λ x. crossings x.inputs) is | inr k ↦ ap crossings k.inputs ] in
    record { root = c.crossed ∙ (ap (λ b. crosses || b) there.root ∙ or_false crosses); below = same ∙ there.below }
  where
    or_false : (b : Bool) → b || false ≡ b
    or_false true = refl
    or_false false = refl

pub crossed_placed : {T : Type 0} (e : Expr T) (made r : Result (Node (TreeNode T)) NoMemory) (crosses : Bool) → IfOk made (λ x. IsPlaced e false x) → IfOk r (λ t. IsCrossed made crosses t) → IfOk r (λ t. IsPlaced e crosses t)
crossed_placed e made (Ok t) crosses w c = placed_crossed e made crosses t w c
crossed_placed e made (Err x) crosses w c = tt

-- ---- the inputs

pub in_front_placed : {T : Type 0} (k : ℕ) (all : List (Expr T)) (x : Expr T) (xs : List (Expr T)) (r : Result (Node (TreeNode T)) NoMemory) (beside : Inputs (TreeNode T)) (t : Result (Inputs (TreeNode T)) NoMemory) →
    all ≡ x ∷ xs → IfOk r (λ b. IsPlaced x (differ k (region_of x)) b) → ArePlaced k xs beside → IfOk t (λ row. IsInFront r beside row) → IfOk t (λ row. ArePlaced k all row)
in_front_placed {T} k all x xs r beside (Ok row) is first rest o =
    placed_more k all x xs o.tree beside row is (subst (λ y. IfOk y (λ (b : Node (TreeNode T)). IsPlaced x (differ k (region_of x)) b)) o.is first) rest o.joined
in_front_placed k all x xs r beside (Err e) is first rest o = tt
