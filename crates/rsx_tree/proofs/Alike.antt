-- No move changes which calls of a tree's nodes may allocate.
use Rattle.std.proofs.Common.{◌≡◌, inl, inr, ℕ, zero, suc, ◌+◌, ◌-◌, Bool, true, false, ◌||◌, ◌&&◌, refl, ap, sym, ◌∙◌, subst}
use Rattle.std.proofs.lemmas.Bool.{or_from}
use Rattle.rsx_sources.specs.Prelude.{Meaning, Allocates, front_of}
use Rattle.rsx_sources.specs.declared.machine.Front.{Front}
use Rattle.rsx_sources.specs.declared.machine.Front.TheVariants.{Item, Completion, Failure}
use Rattle.rsx_sources.specs.declared.machine.Machine.{Ghosts as Machine}
use Rattle.rsx_tree.specs.declared.edge.Edge.{Edge}
use Rattle.rsx_tree.specs.declared.inputs.Inputs.{Inputs, End, More'}
use Rattle.rsx_tree.specs.declared.node.Node.{Node}
use Rattle.rsx_tree.specs.Allocates.{node_allocates, row_allocates, over_allocates, tree_allocates, IsNodeAlike, IsAlike}
use Rattle.rsx_tree.specs.Changed.{Change, IsChanged, IsAskedIn, IsAskedOver, IsSentOver}
use Rattle.rsx_tree.specs.Driven.{IsMade, IsRowRun, IsRowStep, IsAdvanced, IsDriven}
use Rattle.rsx_tree.proofs.Runs.{leads_by_keep}
use Rattle.rsx_tree.specs.Edges.{edge_view, EdgeView, is_live, passed}
use Rattle.rsx_tree.specs.Inputs.{size, is_own, closed_row, closed_row_if, send_over_allocates}
use Rattle.rsx_tree.proofs.Readings.{ReadsOn, IsReadChange, IsReadStep, changed_reads, made_reads, tree_reads, tree_stepped_reads, closed_if_reads, shut_readings}
use Rattle.rsx_tree.specs.Stepped.{Step, IsStepped, IsSteppedAt, IsPickedHere, IsRowMadeHere}

-- ---- a node

pub or_left : (x y : Bool) → (x || y) ≡ false → x ≡ false
or_left false y h = refl
or_left true y h = h

pub or_right : (x y : Bool) → (x || y) ≡ false → y ≡ false
or_right false y h = h
or_right true y h = cc

pub alike_same : {M T : Type 0} (b : Machine M T) (n n' : M) → n' ≡ n → IsNodeAlike b n n'
alike_same b n n' h = (ap b.reads h, (ap b.crosses h, λ a. (ap (b.pop_allocates a) h, ap (b.signal_allocates a) h, ap (b.step_allocates a) h)))

pub node_alike : {M T : Type 0} (b : Machine M T) (n n' : M) → IsNodeAlike b n n' → (a : Allocates) → node_allocates b a n' ≡ node_allocates b a n
node_alike b n n' h a =
    let k = h.1.1 a in
    ap (λ c. c || (b.signal_allocates a n' || b.step_allocates a n')) k.0
    ∙ (ap (λ c. b.pop_allocates a n || (c || b.step_allocates a n')) k.1
    ∙ ap (λ c. b.pop_allocates a n || (b.signal_allocates a n || c)) k.2)

-- from a node to another and on to a third
pub alike_before : {M T : Type 0} (b : Machine M T) (n k n' : M) → IsNodeAlike b n n' → IsNodeAlike b k n' → IsNodeAlike b n k
alike_before b n k n' whole last = (sym last.0 ∙ whole.0, (sym last.1.0 ∙ whole.1.0, λ a. let w = whole.1.1 a in let l = last.1.1 a in (sym l.0 ∙ w.0, sym l.1 ∙ w.1, sym l.2 ∙ w.2)))

-- ---- a row

pub row_closed : {M T : Type 0} (b : Machine M T) (a : Allocates) (t : Inputs M) → row_allocates b a (closed_row t) ≡ row_allocates b a t
row_closed b a End = refl
row_closed b a (More' e n p below q beside) = rw (row_closed b a below, row_closed b a beside) refl

pub row_closed_if : {M T : Type 0} (b : Machine M T) (a : Allocates) (c : Bool) (t : Inputs M) → row_allocates b a (closed_row_if c t) ≡ row_allocates b a t
row_closed_if b a true t = row_closed b a t
row_closed_if b a false t = refl

-- what a move does to the nodes at the ends of an edge, and to the edge: one that isn't live stays so
abbrev pub IsAlikeChange : {M T : Type 0} → Machine M T → Change M → Type 0
IsAlikeChange {M} b P = (r : M) (i asked sent : ℕ) (e : Edge) (n r' : M) (e' : Edge) (n' : M) → P r i asked sent e n r' e' n' → IsNodeAlike b r r' × IsNodeAlike b n n' × (is_live e.state ≡ false → is_live e'.state ≡ false)

passed_dead : (e : EdgeView) (f : Front) → is_live e.state ≡ false → is_live (passed e f).state ≡ false
passed_dead e Item h = h
passed_dead e Completion h = refl
passed_dead e (Failure c) h = refl

pub asked_over : {M T : Type 0} (b : Machine M T) → IsAlikeChange b (IsAskedOver b)
asked_over b r i asked sent e n r' e' n' h = (alike_same b r r' h.receiver, alike_same b n n' h.sender, λ dead. ap (λ v. is_live v.state) h.edge ∙ dead)

pub sent_over : {M T : Type 0} (b : Machine M T) (m : Meaning T) → IsAlikeChange b (IsSentOver b m)
sent_over b m r i asked sent e n r' e' n' h = (h.alike_in, h.alike_out, λ dead. ap (λ v. is_live v.state) h.edge ∙ passed_dead (edge_view e) (front_of h.signal) dead)

pub changed_alike : {M T : Type 0} (b : Machine M T) (P : Change M) → IsAlikeChange b P → (ends : M → Bool) (r : M) (i asked sent : ℕ) (t : Inputs M) (at : ℕ) (r' : M) (t' : Inputs M) → IsChanged P ends r i asked sent t at r' t' →
    (a : Allocates) → (node_allocates b a r' ≡ node_allocates b a r) × (row_allocates b a t' ≡ row_allocates b a t)
changed_alike b P alike ends r i asked sent End at r' t' h a = absurd h
changed_alike b P alike ends r i asked sent (More' e n p below q beside) at r' t' h a = elim h [
  | inl x ↦
      let k = alike r i asked sent e n r' x.e' x.n' x.made in
      (node_alike b r r' k.0 a, ap (row_allocates b a) x.new_is ∙ ap (λ c. c || (row_allocates b a below || row_allocates b a beside)) (node_alike b n x.n' k.1 a))
  | inr y ↦ elim y [
    | inl x ↦
        let k = changed_alike b P alike ends n 0 e.demand.asked e.demand.sent below (at - 1) x.n' x.mid x.made a in
        let shut = closed_row_if (ends x.n' && is_own below (at - 1)) x.mid in (
          ap (node_allocates b a) x.receiver,
          ap (row_allocates b a) x.new_is
              ∙ (ap (λ c. c || (row_allocates b a shut || row_allocates b a beside)) k.0
              ∙ ap (λ c. node_allocates b a n || (c || row_allocates b a beside)) (row_closed_if b a (ends x.n' && is_own below (at - 1)) x.mid ∙ k.1)),
        )
    | inr x ↦
        let k = changed_alike b P alike ends r (i + 1) asked sent beside (at - 1 - size below) r' x.beside' x.made a in
        (k.0, ap (row_allocates b a) x.new_is ∙ ap (λ c. node_allocates b a n || (row_allocates b a below || c)) k.1)
  ]
]

-- the edge of the receiver crosses where it did
pub changed_crosses : {M T : Type 0} (b : Machine M T) (P : Change M) → IsAlikeChange b P → (ends : M → Bool) (r : M) (i asked sent : ℕ) (t : Inputs M) (at : ℕ) (r' : M) (t' : Inputs M) → IsChanged P ends r i asked sent t at r' t' → b.crosses r' ≡ b.crosses r
changed_crosses b P alike ends r i asked sent End at r' t' h = absurd h
changed_crosses b P alike ends r i asked sent (More' e n p below q beside) at r' t' h = elim h [
  | inl x ↦ (alike r i asked sent e n r' x.e' x.n' x.made).0.1.0
  | inr y ↦ elim y [
    | inl x ↦ ap b.crosses x.receiver
    | inr x ↦ changed_crosses b P alike ends r (i + 1) asked sent beside (at - 1 - size below) r' x.beside' x.made
  ]
]

-- what a step does to its node
abbrev pub IsAlikeStep : {M T : Type 0} → Machine M T → Step M → Type 0
IsAlikeStep {M} b P = (n : M) (asked sent : ℕ) (n' : M) → P n asked sent n' → IsNodeAlike b n n'

pub picked : {M T : Type 0} (b : Machine M T) (m : Meaning T) (i : ℕ) → IsAlikeStep b (IsPickedHere b m i)
picked b m i n asked sent n' h = h.alike

pub row_made : {M T : Type 0} (b : Machine M T) (m : Meaning T) → IsAlikeStep b (IsRowMadeHere b m)
row_made b m n asked sent n' h = h.alike

pub stepped_alike : {M T : Type 0} (b : Machine M T) (P : Step M) → IsAlikeStep b P → (ends : M → Bool) (t : Inputs M) (at : ℕ) (t' : Inputs M) → IsStepped P ends t at t' → (a : Allocates) → row_allocates b a t' ≡ row_allocates b a t
stepped_alike b P alike ends End at t' h a = absurd h
stepped_alike b P alike ends (More' e n p below q beside) at t' h a = elim h [
  | inl x ↦ ap (row_allocates b a) x.new_is
      ∙ (ap (λ c. node_allocates b a x.n' || (c || row_allocates b a beside)) (row_closed_if b a (ends x.n' && true) below)
      ∙ ap (λ c. c || (row_allocates b a below || row_allocates b a beside)) (node_alike b n x.n' (alike n e.demand.asked e.demand.sent x.n' x.made) a))
  | inr y ↦ elim y [
    | inl x ↦ ap (row_allocates b a) x.new_is ∙ ap (λ c. node_allocates b a n || (c || row_allocates b a beside)) (stepped_alike b P alike ends below (at - 1) x.below' x.made a)
    | inr x ↦ ap (row_allocates b a) x.new_is ∙ ap (λ c. node_allocates b a n || (row_allocates b a below || c)) (stepped_alike b P alike ends beside (at - 1 - size below) x.beside' x.made a)
  ]
]

-- ---- a row under its receiver

pub closed_alike : {M T : Type 0} (b : Machine M T) (a : Allocates) (r : M) (c : Bool) (t : Inputs M) → over_allocates b a r (closed_row_if c t) ≡ over_allocates b a r t
closed_alike b a r c t = ap (λ k. node_allocates b a r || k) (row_closed_if b a c t)

pub over_alike : {M T : Type 0} (b : Machine M T) (a : Allocates) (r r' : M) (t t' : Inputs M) → node_allocates b a r' ≡ node_allocates b a r → row_allocates b a t' ≡ row_allocates b a t → over_allocates b a r' t' ≡ over_allocates b a r t
over_alike b a r r' t t' h k = ap (λ c. c || row_allocates b a t') h ∙ ap (λ c. node_allocates b a r || c) k

pub made_alike : {M T : Type 0} (b : Machine M T) (m : Meaning T) (steps : Bool) (r : M) (i asked sent : ℕ) (t : Inputs M) (at : ℕ) (ends : Bool) (r' : M) (t' : Inputs M) → IsMade b m steps r i asked sent t at ends r' t' →
    (a : Allocates) → over_allocates b a r' t' ≡ over_allocates b a r t
made_alike b m steps r i asked sent t at ends r' t' h a = elim h [
  | inl x ↦ (let k = changed_alike b (IsAskedOver b) (asked_over b) (λ n. false) r i asked sent t at r' t' x.made a in over_alike b a r r' t t' k.0 k.1)
  | inr y ↦ elim y [
    | inl x ↦ (let k = changed_alike b (IsSentOver b m) (sent_over b m) b.ended r i asked sent t at r' t' (x.made asked sent) a in over_alike b a r r' t t' k.0 k.1)
    | inr z ↦ over_alike b a r r' t t' (ap (node_allocates b a) z.1.receiver) (elim z.1.made [
      | inl k ↦ stepped_alike b (IsPickedHere b m k.0) (picked b m k.0) b.ended t at t' k.1 a
      | inr k ↦ stepped_alike b (IsRowMadeHere b m) (row_made b m) b.ended t at t' k a
    ])
  ]
]

pub made_crosses : {M T : Type 0} (b : Machine M T) (m : Meaning T) (steps : Bool) (r : M) (i asked sent : ℕ) (t : Inputs M) (at : ℕ) (ends : Bool) (r' : M) (t' : Inputs M) → IsMade b m steps r i asked sent t at ends r' t' → b.crosses r' ≡ b.crosses r
made_crosses b m steps r i asked sent t at ends r' t' h = elim h [
  | inl x ↦ changed_crosses b (IsAskedOver b) (asked_over b) (λ n. false) r i asked sent t at r' t' x.made
  | inr y ↦ elim y [
    | inl x ↦ changed_crosses b (IsSentOver b m) (sent_over b m) b.ended r i asked sent t at r' t' (x.made asked sent)
    | inr z ↦ ap b.crosses z.1.receiver
  ]
]

pub run_alike : {M T : Type 0} (b : Machine M T) (m : Meaning T) (steps : Bool) (k i asked sent : ℕ) (r : M) (t : Inputs M) (r' : M) (t' : Inputs M) → IsRowRun b m steps k i asked sent r t r' t' → (a : Allocates) → over_allocates b a r' t' ≡ over_allocates b a r t
run_alike {M} b m steps k i asked sent r t r' t' h a =
    leads_by_keep (IsRowStep b m steps i asked sent) (λ (x : M × Inputs M). over_allocates b a x.0 x.1 ≡ over_allocates b a r t) (λ x y s e. made_alike b m steps x.0 i asked sent x.1 s.0 false y.0 y.1 s.1 a ∙ e) k (r, t) (r', t') h refl

-- a move leaves how far each node got
pub reads_change : {M T : Type 0} (b : Machine M T) (P : Change M) → IsAlikeChange b P → IsReadChange b P
reads_change b P alike r i asked sent e n r' e' n' h = let k = alike r i asked sent e n r' e' n' h in (k.0.0, k.1.0, k.2)

pub reads_step : {M T : Type 0} (b : Machine M T) (P : Step M) → IsAlikeStep b P → IsReadStep b P
reads_step b P alike n asked sent n' h = (alike n asked sent n' h).0

pub reads_closed_if : {M T : Type 0} (b : Machine M T) (r r' : M) (t mid : Inputs M) (c : Bool) → ReadsOn b r r' t mid → ReadsOn b r r' t (closed_row_if c mid)
reads_closed_if b r r' t mid c h = (h.0, λ counts g. closed_if_reads b counts c mid (h.1 counts g), shut_readings b c mid ∙ h.2)

pub reads_made : {M T : Type 0} (b : Machine M T) (m : Meaning T) (steps : Bool) (r : M) (i asked sent : ℕ) (t : Inputs M) (at : ℕ) (ends : Bool) (r' : M) (t' : Inputs M) → IsMade b m steps r i asked sent t at ends r' t' → ReadsOn b r r' t t'
reads_made b m steps r i asked sent t at ends r' t' h =
    made_reads b m steps r i asked sent t at ends r' t' (reads_change b (IsAskedOver b) (asked_over b)) (reads_change b (IsSentOver b m) (sent_over b m)) (λ j. reads_step b (IsPickedHere b m j) (picked b m j)) (reads_step b (IsRowMadeHere b m) (row_made b m)) h

-- ---- a tree

abbrev node : {M : Type 0} → M → Inputs M → Node M
node r t = record { machine = r; inputs = t }

-- the same calls of the nodes may allocate, they got as far, and the root's edge crosses where it did
pub tree_alike : {M T : Type 0} (b : Machine M T) (r r' : M) (t t' : Inputs M) → ((a : Allocates) → over_allocates b a r' t' ≡ over_allocates b a r t) → ReadsOn b r r' t t' → b.crosses r' ≡ b.crosses r → IsAlike b (node r t) (node r' t')
tree_alike b r r' t t' calls reads crosses = let k = tree_reads b r r' t t' reads in (calls, k.0, k.1, crosses)

pub popped_alike : {M T : Type 0} (b : Machine M T) (r r' : M) (t : Inputs M) → IsNodeAlike b r r' → IsAlike b (node r t) (node r' t)
popped_alike b r r' t alike = tree_alike b r r' t t (λ a. over_alike b a r r' t t (node_alike b r r' alike a) refl) (alike.0, λ counts g. g, refl) alike.1.0

-- an Ask, and a Send, by which all edges may be closed
pub asked_alike : {M T : Type 0} (b : Machine M T) (r r' : M) (asked sent at : ℕ) (t t' : Inputs M) → IsAskedIn b r 0 asked sent t at r' t' → IsAlike b (node r t) (node r' t')
asked_alike b r r' asked sent at t t' made =
    tree_alike b r r' t t' (λ a. let k = changed_alike b (IsAskedOver b) (asked_over b) (λ n. false) r 0 asked sent t at r' t' made a in over_alike b a r r' t t' k.0 k.1)
    (changed_reads b (IsAskedOver b) (reads_change b (IsAskedOver b) (asked_over b)) (λ n. false) r 0 asked sent t at r' t' made)
    (changed_crosses b (IsAskedOver b) (asked_over b) (λ n. false) r 0 asked sent t at r' t' made)

pub sent_alike : {M T : Type 0} (b : Machine M T) (m : Meaning T) (r r' : M) (at : ℕ) (t mid t' : Inputs M) (c : Bool) → IsChanged (IsSentOver b m) b.ended r 0 0 0 t at r' mid → t' ≡ closed_row_if c mid → IsAlike b (node r t) (node r' t')
sent_alike {M} b m r r' at t mid t' c made row =
    let R : Inputs M → Type 0 = λ u. ReadsOn b r r' t u in
    tree_alike b r r' t t' (λ a. let k = changed_alike b (IsSentOver b m) (sent_over b m) b.ended r 0 0 0 t at r' mid made a in over_alike b a r r' t t' k.0 (ap (row_allocates b a) row ∙ (row_closed_if b a c mid ∙ k.1)))
    (subst R (sym row) (reads_closed_if b r r' t mid c (changed_reads b (IsSentOver b m) (reads_change b (IsSentOver b m) (sent_over b m)) b.ended r 0 0 0 t at r' mid made)))
    (changed_crosses b (IsSentOver b m) (sent_over b m) b.ended r 0 0 0 t at r' mid made)

tree_stepped_allocates : {M T : Type 0} (b : Machine M T) (P : Step M) → IsAlikeStep b P → (ends : M → Bool) (old : Node M) (e : EdgeView) (at : ℕ) (new : Node M) → IsSteppedAt P ends old e at new → (a : Allocates) → tree_allocates b a new ≡ tree_allocates b a old
tree_stepped_allocates b P alike ends old e zero new h a =
    over_alike b a old.machine new.machine old.inputs new.inputs (node_alike b old.machine new.machine (alike old.machine e.asked e.sent new.machine h.made) a) (ap (row_allocates b a) h.inputs ∙ row_closed_if b a (ends new.machine && true) old.inputs)
tree_stepped_allocates b P alike ends old e (suc at) new h a =
    over_alike b a old.machine new.machine old.inputs new.inputs (ap (node_allocates b a) h.machine) (stepped_alike b P alike ends old.inputs at new.inputs h.made a)

tree_stepped_crosses : {M T : Type 0} (b : Machine M T) (P : Step M) → IsAlikeStep b P → (ends : M → Bool) (old : Node M) (e : EdgeView) (at : ℕ) (new : Node M) → IsSteppedAt P ends old e at new → b.crosses new.machine ≡ b.crosses old.machine
tree_stepped_crosses b P alike ends old e zero new h = (alike old.machine e.asked e.sent new.machine h.made).1.0
tree_stepped_crosses b P alike ends old e (suc at) new h = ap b.crosses h.machine

pub tree_stepped_alike : {M T : Type 0} (b : Machine M T) (P : Step M) → IsAlikeStep b P → (ends : M → Bool) (old : Node M) (e : EdgeView) (at : ℕ) (new : Node M) → IsSteppedAt P ends old e at new → IsAlike b old new
tree_stepped_alike b P alike ends old e at new h = tree_alike b old.machine new.machine old.inputs new.inputs (tree_stepped_allocates b P alike ends old e at new h) (tree_stepped_reads b P (reads_step b P alike) ends old e at new h) (tree_stepped_crosses b P alike ends old e at new h)

pub alike_still : {M T : Type 0} (b : Machine M T) (t : Node M) → IsAlike b t t
alike_still b t = (λ a. refl, λ counts r. r, refl, refl)

pub alike_then : {M T : Type 0} (b : Machine M T) (old mid new : Node M) → IsAlike b old mid → IsAlike b mid new → IsAlike b old new
alike_then b old mid new h k = (λ a. k.0 a ∙ h.0 a, λ counts r. k.1 counts (h.1 counts r), k.2 ∙ h.2, k.3 ∙ h.3)

pub driven_alike : {M T : Type 0} (b : Machine M T) (m : Meaning T) (steps : Bool) (k : ℕ) (old : Node M) (asked sent : ℕ) (new : Node M) → IsDriven b m steps k old asked sent new → IsAlike b old new
driven_alike {M} b m steps k old asked sent new h =
    leads_by_keep (λ (x y : Node M). IsAdvanced b m steps x asked sent y) (λ t. IsAlike b old t) (λ x y s was. alike_then b old x y was s.alike) k old new h (alike_still b old)

-- ---- no want of memory

-- the calls of a Send
pub send_free : {M T : Type 0} (b : Machine M T) (a : Allocates) (r n : M) → (node_allocates b a r || node_allocates b a n) ≡ false → send_over_allocates b a r n ≡ false
send_free b a r n h =
    or_from (b.pop_allocates a n) (b.signal_allocates a r) (or_left (b.pop_allocates a n) _ (or_right (node_allocates b a r) _ h)) (or_left (b.signal_allocates a r) _ (or_right (b.pop_allocates a r) _ (or_left (node_allocates b a r) _ h)))

-- those of a step of the sender
pub step_free : {M T : Type 0} (b : Machine M T) (a : Allocates) (r n n' : M) → (node_allocates b a r || node_allocates b a n) ≡ false → n' ≡ n → b.step_allocates a n' ≡ false
step_free b a r n n' h same = ap (b.step_allocates a) same ∙ or_right (b.signal_allocates a n) _ (or_right (b.pop_allocates a n) _ (or_right (node_allocates b a r) _ h))

-- those over the first edge, of the row below it, and of the row beside it
pub first_free : {M T : Type 0} (b : Machine M T) (a : Allocates) (r n : M) (x y : Bool) → (node_allocates b a r || (node_allocates b a n || (x || y))) ≡ false → (node_allocates b a r || node_allocates b a n) ≡ false
first_free b a r n x y h = or_from (node_allocates b a r) (node_allocates b a n) (or_left (node_allocates b a r) _ h) (or_left (node_allocates b a n) _ (or_right (node_allocates b a r) _ h))

pub below_free : {M T : Type 0} (b : Machine M T) (a : Allocates) (r n n' : M) (below was : Inputs M) (y : Bool) → (node_allocates b a r || (node_allocates b a n || (row_allocates b a below || y))) ≡ false → n' ≡ n → was ≡ below → over_allocates b a n' was ≡ false
below_free b a r n n' below was y h same at =
    let k = or_right (node_allocates b a r) _ h in
    ap (λ c. over_allocates b a c was) same
    ∙ (ap (over_allocates b a n) at ∙ or_from (node_allocates b a n) (row_allocates b a below) (or_left (node_allocates b a n) _ k) (or_left (row_allocates b a below) y (or_right (node_allocates b a n) _ k)))

pub beside_free : {M T : Type 0} (b : Machine M T) (a : Allocates) (r n : M) (x : Bool) (beside was : Inputs M) → (node_allocates b a r || (node_allocates b a n || (x || row_allocates b a beside))) ≡ false → was ≡ beside → over_allocates b a r was ≡ false
beside_free b a r n x beside was h at =
    ap (over_allocates b a r) at
    ∙ or_from (node_allocates b a r) (row_allocates b a beside) (or_left (node_allocates b a r) _ h) (or_right x (row_allocates b a beside) (or_right (node_allocates b a n) _ (or_right (node_allocates b a r) _ h)))
