-- What the nodes of an expression record: one level of the definition, and that an expression with a value has notes of the
-- right kinds.
use Rattle.std.proofs.Common.{◌≡◌, ◌∙◌, ℕ, suc, ◌+◌, Bool, true, if◌then◌else◌, List, [], ◌∷◌, length, map, drop, Option, Some, None, option_map, option_and_then, slice_get, refl, sym, ap, arith}
use Rattle.std.proofs.lemmas.Option.{slice_get_within, get_or_from_slice_get}
use Rattle.std.proofs.Math.Seq.{drop-cons, drop-length}
use Rattle.rsx_values.specs.Prelude.{merge, merge_delay, eager_of, flat_map, flat_map_delay, group_by, latest_by, zip, Note, Nothing, Picks, Ended, Stream}
use Rattle.rsx_model.specs.declared.expr.Expr.{Expr}
use Rattle.rsx_model.specs.declared.expr.Expr.TheOpen.{Expr-F}
use Rattle.rsx_model.specs.declared.expr.Expr.TheOpen as layer
use Rattle.rsx_model.specs.declared.expr.Expr.TheFolds.{map-Expr, fold_out-Expr}
use Rattle.rsx_model.specs.declared.expr.Expr.TheViews.{out-Expr}
use Rattle.rsx_model.specs.Shape.{children, sum_of, nodes}
use Rattle.rsx_model.specs.Eval.{Environment, Meant, quiet, chosen, ended_by_record, in_order, node_value, meant, eval}
use Rattle.rsx_model.specs.Kinds.{is_nothing, is_picks, is_ended, is_of_kind, behind_kind, behind_all, behind_notes, AreNoted}
use Rattle.rsx_model.proofs.Unfold.{Each, by_children, children-map, value_out, nodes_out, meant_nodes}

is_of_kind-map : {T A B : Type 0} (h : A → B) (x : Expr-F T A) (n : Note) → is_of_kind (map-Expr T A B h x) n ≡ is_of_kind x n
is_of_kind-map h (layer.Items v) n = refl
is_of_kind-map h (layer.Range a k) n = refl
is_of_kind-map h (layer.Hub k) n = refl
is_of_kind-map h (layer.Plain g b) n = refl
is_of_kind-map h (layer.Concat v) n = refl
is_of_kind-map h (layer.Merge p v) n = refl
is_of_kind-map h (layer.MergeDelay p v) n = refl
is_of_kind-map h (layer.Zip p v) n = refl
is_of_kind-map h (layer.Latest p v) n = refl
is_of_kind-map h (layer.Group f gs b) n = refl
is_of_kind-map h (layer.Window k gs b) n = refl
is_of_kind-map h (layer.Flat f c gs b) n = refl
is_of_kind-map h (layer.FlatDelay f c gs b) n = refl
is_of_kind-map h (layer.On k p b) n = refl
is_of_kind-map h (layer.OnEager k p b) n = refl

behind_kind-map : {T A B : Type 0} (h : A → B) (x : Expr-F T A) (ns : List Note) → behind_kind (is_of_kind (map-Expr T A B h x)) ns ≡ behind_kind (is_of_kind x) ns
behind_kind-map h x [] = refl
behind_kind-map h x (n ∷ ns) = ap (λ b. if b then Some ns else None) (is_of_kind-map h x n)

-- the notes behind a node's own, and then behind its children's
pub behind_out : {T : Type 0} (e : Expr T) (ns : List Note) → behind_notes e ns ≡ option_and_then (behind_all (map behind_notes (children (out-Expr T e)))) (behind_kind (is_of_kind (out-Expr T e)) ns)
behind_out {T} e ns =
    ap (λ f. f ns) (fold_out-Expr T (List Note → Option (List Note)) (λ x ms. option_and_then (behind_all (children x)) (behind_kind (is_of_kind x) ms)) e)
    ∙ ap (λ o. option_and_then (behind_all (children (map-Expr T (Expr T) (List Note → Option (List Note)) behind_notes (out-Expr T e)))) o) (behind_kind-map behind_notes (out-Expr T e) ns)
    ∙ ap (λ fs. option_and_then (behind_all fs) (behind_kind (is_of_kind (out-Expr T e)) ns)) (children-map behind_notes (out-Expr T e))

-- ---- an expression with a value

-- a note of this kind, and values of the children
abbrev Shown : {T : Type 0} → (Note → Bool) → Option Note → Option (List (Stream T)) → Type 0
Shown {T} kind o vs = (n : Note) × (o ≡ Some n) × (kind n ≡ true) × ((ss : List (Stream T)) × (vs ≡ Some ss))

of_quiet : {A : Type 0} (o : Option Note) (r : Option A) (s : A) → quiet o r ≡ Some s → (n : Note) × (o ≡ Some n) × (is_nothing n ≡ true) × (r ≡ Some s)
of_quiet None r s h = cc
of_quiet (Some Nothing) r s h = (Nothing, refl, refl, h)
of_quiet (Some (Picks cs)) r s h = cc
of_quiet (Some (Ended i)) r s h = cc

of_map : {A B : Type 0} (f : A → B) (o : Option A) (s : B) → option_map f o ≡ Some s → (a : A) × (o ≡ Some a)
of_map f None s h = cc
of_map f (Some a) s h = (a, refl)

of_then : {A B : Type 0} (f : A → Option B) (o : Option A) (s : B) → option_and_then f o ≡ Some s → (a : A) × (o ≡ Some a) × (f a ≡ Some s)
of_then f None s h = cc
of_then f (Some a) s h = (a, refl, h)

of_chosen : {A B : Type 0} (o : Option Note) (f : List ℕ → A → Option B) (r : Option A) (s : B) → chosen o (λ cs. option_and_then (f cs) r) ≡ Some s → (n : Note) × (o ≡ Some n) × (is_picks n ≡ true) × ((a : A) × (r ≡ Some a))
of_chosen None f r s h = cc
of_chosen (Some Nothing) f r s h = cc
of_chosen (Some (Picks cs)) f r s h = let t = of_then (f cs) r s h in (Picks cs, refl, refl, (t.0, t.1))
of_chosen (Some (Ended i)) f r s h = cc

of_record : {A B : Type 0} (o : Option Note) (f : Option ℕ → A → Option B) (r : Option A) (s : B) → ended_by_record o (λ i. option_and_then (f i) r) ≡ Some s → (n : Note) × (o ≡ Some n) × (is_ended n ≡ true) × ((a : A) × (r ≡ Some a))
of_record None f r s h = cc
of_record (Some Nothing) f r s h = cc
of_record (Some (Picks cs)) f r s h = cc
of_record (Some (Ended i)) f r s h = let t = of_then (f i) r s h in (Ended i, refl, refl, (t.0, t.1))

-- the only child's value
one_value : {T : Type 0} (o : Option (Stream T)) (a : Stream T) → o ≡ Some a → option_and_then (λ s. option_map (λ ss. s ∷ ss) (Some [])) o ≡ Some (a ∷ [])
one_value None a h = cc
one_value (Some b) a h = cc

-- a node with a value has a note of its kind, and its children have values
node_shown : {T : Type 0} (w : Environment T) (x : Expr-F T (Meant T)) (at leaf : ℕ) (s : Stream T) → node_value w x at leaf ≡ Some s → Shown (is_of_kind x) (slice_get w.notes at) (in_order (children x) (at + 1) leaf)
node_shown w (layer.Items v) at leaf s h = let q = of_quiet (slice_get w.notes at) _ s h in (q.0, q.1, q.2, ([], refl))
node_shown w (layer.Range a n) at leaf s h = let q = of_quiet (slice_get w.notes at) _ s h in (q.0, q.1, q.2, ([], refl))
node_shown w (layer.Hub k) at leaf s h = let q = of_quiet (slice_get w.notes at) _ s h in (q.0, q.1, q.2, ([], refl))
node_shown w (layer.Plain g b) at leaf s h =
    let q = of_quiet (slice_get w.notes at) _ s h in
    let v = of_map _ (b.value.value (at + 1) leaf) s q.3 in
    (q.0, q.1, q.2, (v.0 ∷ [], one_value (b.value.value (at + 1) leaf) v.0 v.1))
node_shown w (layer.Concat v) at leaf s h =
    let q = of_quiet (slice_get w.notes at) _ s h in
    let vs = of_map _ (in_order v.items (at + 1) leaf) s q.3 in
    (q.0, q.1, q.2, (vs.0, vs.1))
node_shown w (layer.Merge p v) at leaf s h = of_chosen (slice_get w.notes at) merge (in_order v.items (at + 1) leaf) s h
node_shown w (layer.MergeDelay p v) at leaf s h = of_chosen (slice_get w.notes at) merge_delay (in_order v.items (at + 1) leaf) s h
node_shown w (layer.Zip p v) at leaf s h = of_record (slice_get w.notes at) (zip w.meaning.row_of) (in_order v.items (at + 1) leaf) s h
node_shown w (layer.Group f gs b) at leaf s h =
    let q = of_chosen (slice_get w.notes at) (group_by w.meaning f gs.items) (b.value.value (at + 1) leaf) s h in
    (q.0, q.1, q.2, (q.3.0 ∷ [], one_value (b.value.value (at + 1) leaf) q.3.0 q.3.1))
node_shown w (layer.Flat f c gs b) at leaf s h =
    let q = of_chosen (slice_get w.notes at) (flat_map w.meaning f gs.items) (b.value.value (at + 1) leaf) s h in
    (q.0, q.1, q.2, (q.3.0 ∷ [], one_value (b.value.value (at + 1) leaf) q.3.0 q.3.1))
node_shown w (layer.FlatDelay f c gs b) at leaf s h =
    let q = of_chosen (slice_get w.notes at) (flat_map_delay w.meaning f gs.items) (b.value.value (at + 1) leaf) s h in
    (q.0, q.1, q.2, (q.3.0 ∷ [], one_value (b.value.value (at + 1) leaf) q.3.0 q.3.1))
node_shown w (layer.Window n gs b) at leaf s h =
    let q = of_quiet (slice_get w.notes at) _ s h in
    let v = of_map _ (b.value.value (at + 1) leaf) s q.3 in
    (q.0, q.1, q.2, (v.0 ∷ [], one_value (b.value.value (at + 1) leaf) v.0 v.1))
node_shown w (layer.On k p b) at leaf s h =
    let q = of_quiet (slice_get w.notes at) _ s h in
    (q.0, q.1, q.2, (s ∷ [], one_value (b.value.value (at + 1) leaf) s q.3))
node_shown w (layer.OnEager k p b) at leaf s h =
    let q = of_chosen (slice_get w.notes at) eager_of (b.value.value (at + 1) leaf) s h in
    (q.0, q.1, q.2, (q.3.0 ∷ [], one_value (b.value.value (at + 1) leaf) q.3.0 q.3.1))
node_shown w (layer.Latest p v) at leaf s h = of_chosen (slice_get w.notes at) (latest_by w.until_stop w.meaning.row_of) (in_order v.items (at + 1) leaf) s h

-- the notes of a subtree that has a value, and what stands behind them
abbrev Noted : {T : Type 0} → Environment T → Expr T → Type 0
Noted {T} w e = (at leaf : ℕ) (s : Stream T) → (meant w e).value at leaf ≡ Some s → behind_notes e (drop at w.notes) ≡ Some (drop (at + nodes e) w.notes)

all_noted : {T : Type 0} (w : Environment T) (es : List (Expr T)) → Each (Noted w) es → (at leaf : ℕ) (vs : List (Stream T)) → in_order (map (meant w) es) at leaf ≡ Some vs → behind_all (map behind_notes es) (drop at w.notes) ≡ Some (drop (at + sum_of (map nodes es)) w.notes)
all_noted w [] kids at leaf vs h = let same : at ≡ at + 0 = omega arith in ap (λ n. Some (drop n w.notes)) same
all_noted {T} w (e ∷ es) kids at leaf vs h =
    let first = of_then _ ((meant w e).value at leaf) vs h in
    let others = of_map _ (in_order (map (meant w) es) (at + (meant w e).nodes) (leaf + (meant w e).leaves)) vs first.2 in
    let here = kids.0 at leaf first.0 first.1 in
    let rest = all_noted w es kids.1 (at + (meant w e).nodes) (leaf + (meant w e).leaves) others.0 others.1 in
    let same = meant_nodes w e in
    let there : at + (meant w e).nodes + sum_of (map nodes es) ≡ at + (nodes e + sum_of (map nodes es)) = omega arith in
    ap (option_and_then (behind_all (map behind_notes es))) here
    ∙ ap (λ n. behind_all (map behind_notes es) (drop (at + n) w.notes)) (sym same)
    ∙ rest
    ∙ ap (λ n. Some (drop n w.notes)) there

-- behind a note of the kind
behind_one : (kind : Note → Bool) (ns : List Note) (at : ℕ) (n : Note) → slice_get ns at ≡ Some n → kind n ≡ true → behind_kind kind (drop at ns) ≡ Some (drop (at + 1) ns)
behind_one kind ns at n is k =
    let within = slice_get_within ns at n is in
    let cons = drop-cons ns at n within in
    let one = get_or_from_slice_get ns at n n is in
    let next : suc at ≡ at + 1 = omega arith in
    ap (behind_kind kind) (cons ∙ ap (λ x. x ∷ drop (suc at) ns) one) ∙ ap (λ (b : Bool). if b then Some (drop (suc at) ns) else None) k ∙ ap (λ m. Some (drop m ns)) next

pub noted : {T : Type 0} (w : Environment T) (e : Expr T) → Noted w e
noted {T} w = by_children (Noted w) (λ e kids at leaf s h.
    let x = out-Expr T e in
    let shown = node_shown w (map-Expr T (Expr T) (Meant T) (meant w) x) at leaf s (sym (value_out w e at leaf) ∙ h) in
    let own = behind_one (is_of_kind x) w.notes at shown.0 shown.1 (sym (is_of_kind-map (meant w) x shown.0) ∙ shown.2) in
    let values = sym (ap (λ ms. in_order ms (at + 1) leaf) (children-map (meant w) x)) ∙ shown.3.1 in
    let below = all_noted w (children x) kids (at + 1) leaf shown.3.0 values in
    let size = nodes_out e in
    let there : at + 1 + sum_of (map nodes (children x)) ≡ at + nodes e = omega arith in
    behind_out e (drop at w.notes)
    ∙ ap (option_and_then (behind_all (map behind_notes (children x)))) own
    ∙ below
    ∙ ap (λ n. Some (drop n w.notes)) there)

-- where there are as many notes as nodes and there is a value, each note is of its node's kind
pub whole_noted : {T : Type 0} (w : Environment T) (e : Expr T) (s : Stream T) → length w.notes ≡ nodes e → eval w e ≡ Some s → AreNoted e w.notes
whole_noted w e s many h =
    let all : 0 + nodes e ≡ length w.notes = omega arith in
    noted w e 0 0 s h ∙ ap (λ n. Some (drop n w.notes)) all ∙ ap Some (drop-length w.notes)

-- and where one isn't, there is no value
pub unnoted : {T : Type 0} (w : Environment T) (e : Expr T) → length w.notes ≡ nodes e → (AreNoted e w.notes → ⊥) → eval w e ≡ None
unnoted {T} w e many never = either (eval w e) refl
  where
    either : (o : Option (Stream T)) → eval w e ≡ o → eval w e ≡ None
    either None is = is
    either (Some s) is = absurd (never (whole_noted w e s many is))

-- behind the note of a node come those of its inputs
pub notes_inputs : {T : Type 0} (e : Expr T) (es : List (Expr T)) (ns : List Note) (n : Note) (rest : List Note) → ns ≡ n ∷ rest → true ≡ is_of_kind (out-Expr T e) n → children (out-Expr T e) ≡ es → behind_all (map behind_notes es) rest ≡ behind_notes e ns
notes_inputs {T} e es ns n rest is kind kids =
    ap (λ (b : Bool). option_and_then (behind_all (map behind_notes es)) (if b then Some rest else None)) kind
    ∙ ap (λ ms. option_and_then (behind_all (map behind_notes es)) (behind_kind (is_of_kind (out-Expr T e)) ms)) (sym is)
    ∙ ap (λ ys. option_and_then (behind_all (map behind_notes ys)) (behind_kind (is_of_kind (out-Expr T e)) ns)) (sym kids)
    ∙ sym (behind_out e ns)

then_all : {A : Type 0} (o : Option A) → option_and_then Some o ≡ o
then_all None = refl
then_all (Some a) = refl

-- and those of its only input
pub notes_one : {T : Type 0} (e x : Expr T) (ns : List Note) (n : Note) (rest : List Note) → ns ≡ n ∷ rest → true ≡ is_of_kind (out-Expr T e) n → children (out-Expr T e) ≡ x ∷ [] → behind_notes x rest ≡ behind_notes e ns
notes_one e x ns n rest is kind kids = sym (then_all (behind_notes x rest)) ∙ notes_inputs e (x ∷ []) ns n rest is kind kids
