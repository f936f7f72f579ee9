-- How many items the nodes of a tree that was built want first.
use Rattle.std.proofs.Math.Nat.{zero-add}
use Rattle.std.proofs.Common.{◌≡◌, ℕ, zero, suc, ◌+◌, ◌<◌, ◌≤◌, Bool, true, false, List, [], ◌∷◌, get_or, map, refl, ap, ◌∙◌, arith, Box, Vec, Global}
use Rattle.std.specs.Prelude.{ℤ}
use Rattle.std.proofs.lemmas.List.{append-nil}
use Rattle.rsx_sources.specs.Prelude.{HubId, Stage}
use Rattle.rsx_sources.specs.declared.machine.Machine.{Ghosts as Machine}
use Rattle.rsx_kinds.specs.Prelude.{CountsItems, Direct, End, Expr, Expr-F, FlatMapDelayNode, FlatMapNode, GroupByNode, Inputs, MOST_CONCURRENCY, More', Several, SeveralKind, SeveralNode, WantsOfEach, WindowNode, any_machine, children, closed_row, closed_row_if, first_wanted, first_wants, flat_delay_wanted, flat_wanted, fold_out-Expr, fresh_wants, group_counted, group_wanted, map-Expr, prefetch_of, several_wanted, wants_beside, window_wanted}
use Rattle.rsx_model.specs.declared.expr.Expr.TheOpen as layer
use Rattle.rsx_model.specs.declared.expr.Expr.TheViews.{Plain, Group, Window, Flat, FlatDelay, On, OnEager, out-Expr, outs-Items, outs-Range, outs-Hub, outs-Plain, outs-Group, outs-Window, outs-Flat, outs-FlatDelay, outs-On, outs-OnEager}
use Rattle.rsx_model.specs.declared.expr.Expr.TheVariants.{Items, Range, Hub}
use Rattle.rsx_model.proofs.Unfold.{children-map}
use Rattle.rsx_kinds.specs.declared.kind.SeveralKind.TheVariants.{Concat, Merge, MergeDelay, Zip, Latest}

-- ---- of a tree

-- closed edges leave the nodes as they are
first_wants_closed : {M T : Type 0} (b : Machine M T) (r : M) (i : ℕ) (t : Inputs M) → first_wants b r i (closed_row t) ≡ first_wants b r i t
first_wants_closed b r i End = refl
first_wants_closed b r i (More' e n p below q beside) = rw (first_wants_closed b n 0 below, first_wants_closed b r (i + 1) beside) refl

pub first_wants_closed_if : {M T : Type 0} (b : Machine M T) (c : Bool) (r : M) (i : ℕ) (t : Inputs M) → first_wants b r i (closed_row_if c t) ≡ first_wants b r i t
first_wants_closed_if b true r i t = first_wants_closed b r i t
first_wants_closed_if b false r i t = refl

-- ---- of a node

-- a fresh `window` wants nothing before something is asked of it
pub window_wants : {T : Type 0} (n : WindowNode T) → CountsItems n (0 ∷ []) 0 → window_wanted n 0 0 0 ≡ 0
window_wants n counted =
    let none : 0 ≡ counted.items = ap (λ l. get_or l 0 0) counted.at in
    let got = counted.got in
    omega arith

-- nor does a fresh `groupBy`
pub group_wants : {T : Type 0} (n : GroupByNode T) → group_counted n (0 ∷ []) 0 → group_wanted n 0 0 0 ≡ 0
group_wants n counted =
    let none : 0 ≡ counted.items = ap (λ l. get_or l 0 0) counted.at in
    let got = counted.counts in
    omega arith

-- a fresh `flatMap` wants as many items as its concurrency says
pub flat_wants : {T : Type 0} (n : FlatMapNode T) (c : ℕ) → n.concurrency ≡ c → n.next ≡ 0 → c ≤ MOST_CONCURRENCY → flat_wanted n 0 0 0 ≡ c
flat_wants n c is next le = omega arith

-- a fresh `flatMapDelayError` wants as many items as its concurrency says
pub flat_delay_wants : {T : Type 0} (n : FlatMapDelayNode T) (c : ℕ) → n.flat.concurrency ≡ c → n.flat.next ≡ 0 → c ≤ MOST_CONCURRENCY → flat_delay_wanted n 0 0 0 ≡ c
flat_delay_wants n c is next le = omega arith

-- a fresh node of several inputs wants of each what it wants of its first
first_wanted_each : (kind : SeveralKind) (i : ℕ) → first_wanted kind i 0 ≡ first_wanted kind 0 0
first_wanted_each Concat zero = refl
first_wanted_each Concat (suc i) = refl
first_wanted_each (Merge p) i = refl
first_wanted_each (MergeDelay p) i = refl
first_wanted_each (Zip p) i = refl
first_wanted_each (Latest p) i = refl

pub several_wants : {T : Type 0} (n : SeveralNode T) (kind : SeveralKind) (count : ℕ) → ((i asked : ℕ) → i < count → several_wanted n i asked 0 ≡ first_wanted kind i asked) → WantsOfEach any_machine (Direct (Several n)) 0 count (first_wanted kind 0 0)
several_wants n kind count h k lt = ap (λ i. several_wanted n i 0 0) (zero-add k) ∙ (h k 0 lt ∙ first_wanted_each kind k)

-- ---- of an expression

prefetch_of-map : {T A B : Type 0} (h : A → B) (x : Expr-F T A) → prefetch_of (map-Expr T A B h x) ≡ prefetch_of x
prefetch_of-map h (layer.Items v) = refl
prefetch_of-map h x = refl

-- one level
pub fresh_wants_out : {T : Type 0} (e : Expr T) → fresh_wants e ≡ wants_beside (prefetch_of (out-Expr T e)) (map fresh_wants (children (out-Expr T e)))
fresh_wants_out {T} e =
    fold_out-Expr T (List ℕ) (λ x. wants_beside (prefetch_of x) (children x)) e
    ∙ (ap (λ p. wants_beside p (children (map-Expr T (Expr T) (List ℕ) fresh_wants (out-Expr T e)))) (prefetch_of-map fresh_wants (out-Expr T e))
    ∙ ap (wants_beside (prefetch_of (out-Expr T e))) (children-map fresh_wants (out-Expr T e)))

pub wants_Items : {T : Type 0} (v : Vec T Global) → fresh_wants (Items v) ≡ []
wants_Items {T} v = rw (fold_out-Expr, outs-Items) refl

pub wants_Range : (T : Type 0) (a : ℤ) (k : ℕ) → fresh_wants {T = T} (Range a k) ≡ []
wants_Range T a k = rw (fold_out-Expr, outs-Range) refl

pub wants_Hub : (T : Type 0) (h : HubId) → fresh_wants {T = T} (Hub h) ≡ []
wants_Hub T h = rw (fold_out-Expr, outs-Hub) refl

pub wants_Plain : {T : Type 0} (g : Stage T) (b : Box (Expr T) Global) → fresh_wants (Plain g b) ≡ 0 ∷ fresh_wants b.value
wants_Plain {T} g b = rw (fold_out-Expr, outs-Plain) (ap (λ l. 0 ∷ l) (append-nil (fresh_wants b.value)))

pub wants_Window : {T : Type 0} (n : ℕ) (gs : Vec (Stage T) Global) (b : Box (Expr T) Global) → fresh_wants (Window n gs b) ≡ 0 ∷ fresh_wants b.value
wants_Window {T} n gs b = rw (fold_out-Expr, outs-Window) (ap (λ l. 0 ∷ l) (append-nil (fresh_wants b.value)))

pub wants_Group : {T : Type 0} (f : ℕ) (gs : Vec (Stage T) Global) (b : Box (Expr T) Global) → fresh_wants (Group f gs b) ≡ 0 ∷ fresh_wants b.value
wants_Group {T} f gs b = rw (fold_out-Expr, outs-Group) (ap (λ l. 0 ∷ l) (append-nil (fresh_wants b.value)))

pub wants_Flat : {T : Type 0} (f c : ℕ) (gs : Vec (Stage T) Global) (b : Box (Expr T) Global) → fresh_wants (Flat f c gs b) ≡ c ∷ fresh_wants b.value
wants_Flat {T} f c gs b = rw (fold_out-Expr, outs-Flat) (ap (λ l. c ∷ l) (append-nil (fresh_wants b.value)))

pub wants_FlatDelay : {T : Type 0} (f c : ℕ) (gs : Vec (Stage T) Global) (b : Box (Expr T) Global) → fresh_wants (FlatDelay f c gs b) ≡ c ∷ fresh_wants b.value
wants_FlatDelay {T} f c gs b = rw (fold_out-Expr, outs-FlatDelay) (ap (λ l. c ∷ l) (append-nil (fresh_wants b.value)))

pub wants_On : {T : Type 0} (k p : ℕ) (b : Box (Expr T) Global) → fresh_wants (On k p b) ≡ p ∷ fresh_wants b.value
wants_On {T} k p b = rw (fold_out-Expr, outs-On) (ap (λ l. p ∷ l) (append-nil (fresh_wants b.value)))

pub wants_OnEager : {T : Type 0} (k p : ℕ) (b : Box (Expr T) Global) → fresh_wants (OnEager k p b) ≡ p ∷ fresh_wants b.value
wants_OnEager {T} k p b = rw (fold_out-Expr, outs-OnEager) (ap (λ l. p ∷ l) (append-nil (fresh_wants b.value)))
