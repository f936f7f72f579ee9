-- The value of an expression under what its part recorded: it is there, and notes and joins fit it.
use Rattle.rsx_sources.specs.declared.machine.Machine.{Ghosts as Machine}
use Rattle.rsx_subscriber.proofs.Laws.{Laws}
use Rattle.rsx_tree.specs.declared.node.Node.{Node}
use Rattle.std.proofs.Common.{◌≡◌, ℕ, zero, suc, ◌+◌, ◌-◌, ◌<◌, ◌≤◌, Bool, true, false, nat_eq, nat_le, nat_lt, if◌then◌else◌, ◌&&◌, List, [], ◌∷◌, ◌++◌, length, length-append, map, Some, None, option_map, refl, ap, sym, ◌∙◌, arith}
use Rattle.std.proofs.lemmas.List.{length-map}
use Rattle.std.proofs.lemmas.Bool.{lt-ltb}
use Rattle.rsx_model.specs.declared.check.TheConstants.{MOST_DEPTH, MOST_NODES}
use Rattle.rsx_model.proofs.Unfold.{Each, by_children, fault_out, or_none, sound}
use Rattle.rsx_model.specs.Check.{refusal, first_fault, first_of, own_fault, or_else, unless}
use Rattle.rsx_model.specs.Shape.{children, nodes, depth, leaves}
use Rattle.rsx_model.specs.declared.check.BadExpr.TheVariants.{Depth, Nodes, Hub as NoSuchHub}
use Rattle.rsx_model.specs.declared.expr.Expr.{Expr}
use Rattle.rsx_model.specs.declared.expr.Expr.TheOpen.{Expr-F}
use Rattle.rsx_model.specs.declared.expr.Expr.TheOpen as layer
use Rattle.rsx_model.specs.declared.expr.Expr.TheViews.{out-Expr}
use Rattle.rsx_pipe.proofs.Trees.{notes_then-unchosen, unchosen_notes, unchosen_tree}
use Rattle.rsx_hub.specs.Hub.{HubState}
use Rattle.rsx_pipe.specs.Built.{joins_now, new_joins}
use Rattle.rsx_pipe.proofs.Rows.{length_joins}
use Rattle.rsx_tree.proofs.Runs.{leads_keep}
use Rattle.rsx_tree.specs.Prelude.{edge_view, EdgeView, asked_up_to, changed_at, closed_if, closed_view, passed, IsUnchosen}
use Rattle.rsx_pipe.specs.Output.{values_then}
use Rattle.rsx_pipe.specs.Published.{AreTaken}
use Rattle.rsx_pipe.specs.Part as Part
use Rattle.rsx_pipe.specs.Part.{all_edges, PartStands}
use Rattle.rsx_pipe.specs.Tree.{comes_out, edges, edges_after, notes_of}
use Rattle.rsx_tree.specs.Tree.{IsUnchosen}
use Rattle.rsx_tree.specs.Inputs.{size, is_own, beside_of, comes_in, sent_edges, edges as edges_in, notes_of as notes_in, IsUnchosen as IsUnchosenIn}
use Rattle.rsx_tree.specs.declared.inputs.Inputs.{Inputs, End, More'}
use Rattle.rsx_pipe.specs.Part.{Part as AnyPart}
use Rattle.rsx_sources.specs.Prelude.{incoming_of, Meaning, unchosen, Stream, signals, signals_then, Ask, Send, Note, Signal, Next, Complete, Error}
use Rattle.rsx_sources.specs.declared.machine.Front.{Front}
use Rattle.rsx_tree.specs.Chosen as Chosen
use Rattle.rsx_tree.specs.declared.look.NodeMove.{NodeMove}
use Rattle.rsx_tree.specs.declared.look.NodeMove.TheVariants.{Ask, Send, Pick, Row}
use Rattle.rsx_subscriber.specs.Past.{IsUnended, IsOrderly}

-- ---- the value is there

-- what comes in at each input of a row where nothing more is chosen is there
row_there : {M T : Type 0} (mc : Machine M T) (lw : Laws mc) (m : Meaning T) (hubs : List (Stream T)) (further : List Note) (t : Inputs M) (at : ℕ) → IsUnchosenIn mc further t at → (vs : List (Stream T)) × (comes_in mc m hubs further t at ≡ Some vs)
row_there mc lw m hubs further End at u = ([], refl)
row_there {M} {T} mc lw m hubs further (More' e n p below q beside) at u =
    let vs = row_there mc lw m hubs further below (at + 1) u.1 in
    let ws = row_there mc lw m hubs further beside (at + 1 + size below) u.2 in
    let v = (lw m).0 n (incoming_of hubs vs.0) in
    (v.0 ∷ ws.0, rw (u.0, vs.1, ws.1) (ap (λ o. beside_of o (Some ws.0)) v.1))

-- and so is what comes out of a tree
comes_out_there : {M T : Type 0} (mc : Machine M T) (lw : Laws mc) (m : Meaning T) (hubs : List (Stream T)) (further : List Note) (t : Node M) (at : ℕ) → IsUnchosen mc further t at → (v : Stream T) × (comes_out mc m hubs further t at ≡ Some v)
comes_out_there mc lw m hubs further t at u =
    let vs = row_there mc lw m hubs further t.inputs (at + 1) u.1 in
    let v = (lw m).0 t.machine (incoming_of hubs vs.0) in
    (v.0, rw (u.0, vs.1) v.1)

-- so what a part stands for has a value under what was recorded: what went out, and then what is left
pub record HasValue {M T : Type 0} (mc : Machine M T) (m : Meaning T) (published : List (Stream T)) (part : AnyPart M) (e : Expr T) (joins : List ℕ) (output : List (Signal T)) : Type 0 where
  pub left : Stream T
  pub comes : comes_out mc m published (map unchosen (notes_of mc part.tree)) part.tree 0 ≡ Some left
  pub value : Part.evaluated m published joins e (notes_of mc part.tree) ≡ Some (signals_then output left)

pub value_there : {M T : Type 0} (mc : Machine M T) (lw : Laws mc) (m : Meaning T) (published more : List (Stream T)) (part : AnyPart M) (e : Expr T) (joins : List ℕ) (output : List (Signal T)) → PartStands mc m published part e joins output → HasValue mc m (values_then published more) part e joins output
value_there {M} {T} mc lw m published more part e joins output h =
    let ns : List Note = notes_of mc part.tree in
    let there = comes_out_there mc lw m (values_then published more) (map unchosen ns) part.tree 0 (unchosen_tree mc part.tree) in
    record {
      left = there.0;
      comes = there.1;
      value = ap (λ k. Part.evaluated m (values_then published more) joins e k) (sym (notes_then-unchosen ns)) ∙ (sym (h.value more (map unchosen ns) (unchosen_notes ns)) ∙ ap (option_map (signals_then output)) there.1);
    }

-- signals with their ending are all of the value that they begin
pub signals_ended : {T : Type 0} (a b : List (Signal T)) (v : Stream T) → IsOrderly a → (IsUnended a → ⊥) → a ≡ signals (signals_then (a ++ b) v)
signals_ended [] b v o n = absurd (n tt)
signals_ended (Next x ∷ a) b v o n = ap (λ l. Next x ∷ l) (signals_ended a b v o n)
signals_ended (Complete ∷ a) b v o n = ap (λ l. Complete ∷ l) o
signals_ended (Error c ∷ a) b v o n = ap (λ l. Error c ∷ l) o

-- ---- an expression that isn't refused over some hubs isn't refused over more, and each of its leaves has a join

below_more : (h n k : ℕ) → h < n → n ≤ k → unless (nat_lt h k) NoSuchHub ≡ None
below_more h n k l m = by_test (nat_lt h k) (lt-ltb h k (omega (arith, l, m)))
  where
    by_test : (b : Bool) → b ≡ true → unless b NoSuchHub ≡ None
    by_test true e = refl
    by_test false e = cc

-- a node with no fault of its own has none over more hubs
own_more : {T A : Type 0} (n k : ℕ) → n ≤ k → (x : Expr-F T A) → own_fault n x ≡ None → own_fault k x ≡ None
own_more n k more (layer.Items v) h = h
own_more n k more (layer.Range a i) h = h
own_more n k more (layer.Hub i) h = below_more i.0 n k (known i.0 n h) more
  where
    known : (i n : ℕ) → unless (nat_lt i n) NoSuchHub ≡ None → i < n
    known i n e = grind arith
own_more n k more (layer.Plain g b) h = h
own_more n k more (layer.Concat v) h = h
own_more n k more (layer.Merge p v) h = h
own_more n k more (layer.MergeDelay p v) h = h
own_more n k more (layer.Zip p v) h = h
own_more n k more (layer.Latest p v) h = h
own_more n k more (layer.Group f gs b) h = h
own_more n k more (layer.Window i gs b) h = h
own_more n k more (layer.Flat f c gs b) h = h
own_more n k more (layer.FlatDelay f c gs b) h = h
own_more n k more (layer.On w p b) h = h
own_more n k more (layer.OnEager w p b) h = h

all_faultless : {T : Type 0} (n k : ℕ) (es : List (Expr T)) → Each (λ e. first_fault n e ≡ None → first_fault k e ≡ None) es → first_of (map (first_fault n) es) ≡ None → first_of (map (first_fault k) es) ≡ None
all_faultless n k [] each h = refl
all_faultless n k (e ∷ es) each h =
    let both = or_none (first_fault n e) (first_of (map (first_fault n) es)) h in
    ap (λ o. or_else o (first_of (map (first_fault k) es))) (each.0 both.0) ∙ all_faultless n k es each.1 both.1

same_fault : {T : Type 0} (n k : ℕ) → n ≤ k → (e : Expr T) → first_fault n e ≡ None → first_fault k e ≡ None
same_fault {T} n k more = by_children (λ e. first_fault n e ≡ None → first_fault k e ≡ None) (λ e each h.
    let cs = children (out-Expr T e) in
    let both = or_none (own_fault n (out-Expr T e)) (first_of (map (first_fault n) cs)) (sym (fault_out n e) ∙ h) in
    fault_out k e ∙ (ap (λ o. or_else o (first_of (map (first_fault k) cs))) (own_more n k more (out-Expr T e) both.0) ∙ all_faultless n k cs each both.1))

pub refusal_more : {T : Type 0} (n k : ℕ) (e : Expr T) → n ≤ k → refusal n e ≡ None → refusal k e ≡ None
refusal_more n k e more h =
    let fault = (sound n e h).fault in
    ap (λ f. or_else (unless (nat_le (depth e) MOST_DEPTH) Depth) (or_else (unless (nat_le (nodes e) MOST_NODES) Nodes) f)) (same_fault n k more e fault ∙ sym fault) ∙ h

pub new_joins_count : {T : Type 0} (hubs : List (HubState T)) (e : Expr T) → length (new_joins hubs e) ≡ leaves e
new_joins_count hubs e = length_joins (joins_now hubs) e

pub taken_length : {T : Type 0} (hubs : List (HubState T)) (published : List (Stream T)) → AreTaken hubs published → length hubs ≡ length published
taken_length [] [] k = refl
taken_length [] (v ∷ vs) k = absurd k
taken_length (h ∷ hs) [] k = absurd k
taken_length (h ∷ hs) (v ∷ vs) k = ap suc (taken_length hs vs k.1)

-- ---- one edge for each node

closed_if_length : (b : Bool) (es : List EdgeView) → length (closed_if b es) ≡ length es
closed_if_length true es = length-map es closed_view
closed_if_length false es = refl

-- a tree recorded a note for each of its edges and one for its root
row_notes : {M T : Type 0} (mc : Machine M T) (t : Inputs M) → length (notes_in mc t) ≡ length (edges_in t)
row_notes mc End = refl
row_notes mc (More' e n p below q beside) =
    let ns = notes_in mc below in
    let es = edges_in below in
    ap suc (length-append ns (notes_in mc beside) ∙ (ap (λ k. k + length (notes_in mc beside)) (row_notes mc below) ∙ (ap (λ k. length es + k) (row_notes mc beside) ∙ sym (length-append es (edges_in beside)))))

pub notes_count : {M T : Type 0} (mc : Machine M T) (t : Node M) → length (notes_of mc t) ≡ suc (length (edges t))
notes_count mc t = ap suc (row_notes mc t.inputs)

changed_length : (f : EdgeView → EdgeView) (at : ℕ) (es : List EdgeView) → length (changed_at f at es) ≡ length es
changed_length f at [] = refl
changed_length f at (e ∷ es) = by_test (nat_eq at 0) (changed_length f (at - 1) es)
  where
    by_test : (b : Bool) → length (changed_at f (at - 1) es) ≡ length es → length (if b then f e ∷ es else e ∷ changed_at f (at - 1) es) ≡ suc (length es)
    by_test true k = refl
    by_test false k = ap suc k

-- a Send leaves as many edges as there were
row_sent : {M : Type 0} (ended : Bool) (f : Front) (t : Inputs M) (at : ℕ) → length (sent_edges ended f t at) ≡ length (edges_in t)
row_sent ended f End at = refl
row_sent {M} ended f (More' e n p below q beside) at = by_first (row_sent ended f below (at - 1)) (row_sent ended f beside (at - 1 - size below)) (nat_eq at 0)
  where
    es : List EdgeView
    es = edges_in below

    fs : List EdgeView
    fs = edges_in beside

    inner : List EdgeView
    inner = sent_edges ended f below (at - 1)

    under : List EdgeView
    under = closed_if (ended && is_own below (at - 1)) inner

    past : List EdgeView
    past = sent_edges ended f beside (at - 1 - size below)

    by_place : length inner ≡ length es → length past ≡ length fs → (c : Bool) → length (if c then edge_view e ∷ (under ++ fs) else edge_view e ∷ (es ++ past)) ≡ suc (length (es ++ fs))
    by_place i j true = ap suc (length-append under fs ∙ (ap (λ k. k + length fs) (closed_if_length (ended && is_own below (at - 1)) inner ∙ i) ∙ sym (length-append es fs)))
    by_place i j false = ap suc (length-append es past ∙ (ap (λ k. length es + k) j ∙ sym (length-append es fs)))

    by_first : length inner ≡ length es → length past ≡ length fs → (c : Bool) → length (if c then passed (edge_view e) f ∷ (es ++ fs) else (if nat_le at (size below) then edge_view e ∷ (under ++ fs) else edge_view e ∷ (es ++ past))) ≡ suc (length (es ++ fs))
    by_first i j true = refl
    by_first i j false = by_place i j (nat_le at (size below))

sent_length : {M : Type 0} (ended : Bool) (f : Front) (part : AnyPart M) (at : ℕ) → length (Part.sent_at ended f part at) ≡ length (all_edges part)
sent_length {M} ended f part at = by_root (nat_eq at 0)
  where
    after : List EdgeView
    after = edges_after ended f part.tree (at - 1)

    by_root : (c : Bool) → length (if c then passed (edge_view part.root) f ∷ edges part.tree else edge_view part.root ∷ after) ≡ suc (length (edges part.tree))
    by_root true = refl
    by_root false = ap suc (closed_if_length (ended && is_own part.tree.inputs (at - 1)) (sent_edges ended f part.tree.inputs (at - 1)) ∙ row_sent ended f part.tree.inputs (at - 1))

-- so does a step of a node
row_stepped : {M : Type 0} (ended : Bool) (t : Inputs M) (at : ℕ) → length (Chosen.stepped_edges ended t at) ≡ length (edges_in t)
row_stepped ended End at = refl
row_stepped {M} ended (More' e n p below q beside) at = by_place (row_stepped ended below (at - 1)) (row_stepped ended beside (at - 1 - size below)) (nat_eq at 0) (nat_le at (size below))
  where
    es : List EdgeView
    es = edges_in below

    fs : List EdgeView
    fs = edges_in beside

    inner : List EdgeView
    inner = Chosen.stepped_edges ended below (at - 1)

    past : List EdgeView
    past = Chosen.stepped_edges ended beside (at - 1 - size below)

    by_place : length inner ≡ length es → length past ≡ length fs → (c d : Bool) → length (if c then edge_view e ∷ (closed_if ended es ++ fs) else (if d then edge_view e ∷ (inner ++ fs) else edge_view e ∷ (es ++ past))) ≡ suc (length (es ++ fs))
    by_place i j true d = ap suc (length-append (closed_if ended es) fs ∙ (ap (λ k. k + length fs) (closed_if_length ended es) ∙ sym (length-append es fs)))
    by_place i j false true = ap suc (length-append inner fs ∙ (ap (λ k. k + length fs) i ∙ sym (length-append es fs)))
    by_place i j false false = ap suc (length-append es past ∙ (ap (λ k. length es + k) j ∙ sym (length-append es fs)))

tree_stepped : {M : Type 0} (ended : Bool) (t : Node M) (at : ℕ) → length (Chosen.edges_after ended t at) ≡ length (edges t)
tree_stepped ended t zero = closed_if_length ended (edges t)
tree_stepped ended t (suc at) = row_stepped ended t.inputs at

pub closed_count : {M : Type 0} (old new : AnyPart M) → all_edges new ≡ map closed_view (all_edges old) → length (all_edges new) ≡ length (all_edges old)
closed_count old new e = ap length e ∙ length-map (all_edges old) closed_view

pub effect_count : {M T : Type 0} (mc : Machine M T) (m : Meaning T) (move : NodeMove) (old new : AnyPart M) (out : List (Signal T)) → Part.IsEffect mc m move old out new → length (all_edges new) ≡ length (all_edges old)
effect_count mc m (Ask n) old new out k = ap length k.1.edges ∙ changed_length (asked_up_to (Part.wanted mc old n)) n (all_edges old)
effect_count mc m (Send n) old new out k = ap length k.edges ∙ sent_length (Part.receiver_ended mc new n) k.front old n
effect_count mc m (Pick n input) old new out k = ap suc (ap length k.1.tree.edges ∙ tree_stepped _ old.tree n)
effect_count mc m (Row n) old new out k = ap suc (ap length k.1.tree.edges ∙ tree_stepped _ old.tree n)

pub moved_count : {M T : Type 0} (mc : Machine M T) (m : Meaning T) (n : ℕ) (old new : AnyPart M) (queue out queue' : List (Signal T)) → Part.IsMovedBy mc Part.queue_sink m n old queue out new queue' → length (all_edges new) ≡ length (all_edges old)
moved_count mc m n old new queue out queue' k =
    leads_keep (Part.IsMovedOver mc Part.queue_sink m) (λ x. length (all_edges x.0) ≡ length (all_edges old)) (λ x y o s e. effect_count mc m s.move x.0 y.0 o s.effect ∙ e) (old, queue) (new, queue') k.labels k.run refl
