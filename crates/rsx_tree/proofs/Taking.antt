-- A tree whose nodes took in a signal of the hub that they read.
use Rattle.std.proofs.Common.{◌≡◌, ◌⊎◌, inl, inr, ℕ, zero, suc, ◌+◌, Bool, true, false, ◌||◌, nat_eq, if◌then◌else◌, List, [], ◌∷◌, ◌++◌, Option, Some, None, option_map, slice_get, refl, ap, sym, ◌∙◌, subst, arith}
use Rattle.std.proofs.lemmas.Bool.Decides.{nat_tests}
use Rattle.std.proofs.Math.Nat.{zero-add}
use Rattle.std.proofs.lemmas.Bool.{both_ways}
use Rattle.rsx_sources.specs.Prelude.{Meaning, Allocates, Stream, Note, Signal, Next, Complete, Error, CountsStep, ends_input, incoming_of, Reading, IsNextAt, IsNextIn, published_at, reads_hub, reading_after, IsSameKind}
use Rattle.rsx_sources.specs.Reading.{origin_of}
use Rattle.rsx_sources.specs.declared.machine.Machine.{Ghosts as Machine}
use Rattle.rsx_tree.specs.declared.inputs.Inputs.{Inputs, End, More'}
use Rattle.rsx_tree.specs.Allocates.{node_allocates, row_allocates}
use Rattle.rsx_tree.specs.Balance.{sent_over, IsOwnerBalanced, IsRowBalanced}
use Rattle.rsx_tree.specs.Edges.{edge_view, is_live}
use Rattle.rsx_tree.specs.Handed.{reader_at, readers_in, IsTakenWhere, IsNodeHanded, OneOf, IsRowHanded, IsNextOf, item_counted, ended_counted, counts_after, IsHanded}
use Rattle.rsx_tree.specs.Inputs.{size, comes_in, out_of, beside_of, notes_of, edges as edges_in}
use Rattle.rsx_tree.specs.Reads.{AllGoOn, GoesOn, IsReadAt, IsRowReadAt, row_readings}
use Rattle.rsx_sources.proofs.Incomings.{hubs_in}

-- ---- a node

-- what it recorded and counted goes on, and the same calls may allocate
pub record Stays {M T : Type 0} (b : Machine M T) (n n' : M) : Type 0 where
  pub recorded : b.recorded n' ≡ b.recorded n
  pub counts : CountsStep b.counted b.ended b.done n n'
  pub calls : (a : Allocates) → node_allocates b a n' ≡ node_allocates b a n

calls_stay : {M T : Type 0} (b : Machine M T) (n n' : M) → IsSameKind b.crosses b.pop_allocates b.signal_allocates b.step_allocates n n' → (a : Allocates) → node_allocates b a n' ≡ node_allocates b a n
calls_stay b n n' h a =
    let k = h.1 a in
    ap (λ c. c || (b.signal_allocates a n' || b.step_allocates a n')) k.0
    ∙ (ap (λ c. b.pop_allocates a n || (c || b.step_allocates a n')) k.1
    ∙ ap (λ c. b.pop_allocates a n || (b.signal_allocates a n || c)) k.2)

node_same : {M T : Type 0} (b : Machine M T) (n : M) → Stays b n n
node_same b n = record { recorded = refl; counts = record { stays_ended = λ e. e; counts = λ e taken sent c. c; stays_done = λ j d. d }; calls = λ a. refl }

pub node_stays : {M T : Type 0} (b : Machine M T) (s : Signal T) (c : Bool) (n n' : M) → IsTakenWhere b s c n n' → Stays b n n'
node_stays b s true n n' h = record { recorded = h.recorded; counts = h.counts; calls = calls_stay b n n' h.calls }
node_stays {M} b s false n n' h = let S : M → Type 0 = λ k. Stays b n k in subst S (sym h) (node_same b n)

reads_it : (h : ℕ) (o : Option Reading) (r : Reading) → reads_hub h o ≡ true → o ≡ Some r → r.hub ≡ h
reads_it h None r e f = cc
reads_it h (Some k) r e f = let q : k.hub ≡ r.hub = cc in grind (arith, nat_tests, e, q)

-- how far it got
read_there : (counts : List (Option ℕ)) (h : ℕ) (o : Option Reading) (r : Reading) → IsReadAt counts o → reads_hub h o ≡ true → o ≡ Some r → slice_get counts h ≡ Some (Some r.reached)
read_there counts h o r at e f =
    let R : Option Reading → Type 0 = λ k. IsReadAt counts k in
    ap (slice_get counts) (sym (reads_it h o r e f)) ∙ subst R f at

node_out : {M T : Type 0} (b : Machine M T) (h : ℕ) (s : Signal T) (c : Bool) (n n' : M) → reads_hub h (b.reads n) ≡ c → IsTakenWhere b s c n n' → (m : Meaning T) (counts : List (Option ℕ)) (hubs : List (Stream T)) → IsReadAt counts (b.reads n) → IsNextOf counts hubs h s →
    (o : Option (List (Stream T))) (k : Option Note) → out_of b m hubs n' o k ≡ out_of b m hubs n o k
node_out b h s false n n' reads same m counts hubs at next o k = ap (λ x. out_of b m hubs x o k) same
node_out b h s true n n' reads taken m counts hubs at next o None = refl
node_out b h s true n n' reads taken m counts hubs at next None (Some k) = refl
node_out {M} {T} b h s true n n' reads taken m counts hubs at next (Some vs) (Some k) =
    let r = taken.on.reading in
    let N : ℕ → Type 0 = λ j. IsNextAt r.reached (published_at hubs j) s in
    let H : List (Stream T) → Type 0 = λ l. IsNextIn r l s in
    taken.on.value m (incoming_of hubs vs) k (subst H (sym (hubs_in hubs vs)) (subst N (sym (reads_it h (b.reads n) r reads taken.on.read)) (next r.reached (read_there counts h (b.reads n) r at reads taken.on.read))))

one_further : (h c : ℕ) (counts : List (Option ℕ)) → slice_get counts h ≡ Some (Some c) → slice_get (item_counted h counts) h ≡ Some (Some (c + 1))
one_further h c [] e = cc
one_further zero c (n ∷ ns) e = let q : n ≡ Some c = cc in ap (λ k. Some (option_map suc k)) q ∙ ap (λ k. Some (Some k)) (next c)
  where
    next : (k : ℕ) → suc k ≡ k + 1
    next k = omega arith
one_further (suc h) c (n ∷ ns) e = one_further h c ns e

down : (h i : ℕ) → nat_eq (suc i) (suc h) ≡ false → nat_eq i h ≡ false
down h i e = grind (arith, nat_tests, e)

not_itself : nat_eq 0 0 ≡ false → ⊥
not_itself e = grind (arith, nat_tests, e)

others_stay : (h i : ℕ) (counts : List (Option ℕ)) → nat_eq i h ≡ false → slice_get (item_counted h counts) i ≡ slice_get counts i
others_stay h i [] e = refl
others_stay zero zero (n ∷ ns) e = absurd (not_itself e)
others_stay zero (suc i) (n ∷ ns) e = refl
others_stay (suc h) zero (n ∷ ns) e = refl
others_stay (suc h) (suc i) (n ∷ ns) e = others_stay h i ns (down h i e)

others_go_on : (h i : ℕ) (counts : List (Option ℕ)) → nat_eq i h ≡ false → slice_get (ended_counted h counts) i ≡ slice_get counts i
others_go_on h i [] e = refl
others_go_on zero zero (n ∷ ns) e = absurd (not_itself e)
others_go_on zero (suc i) (n ∷ ns) e = refl
others_go_on (suc h) zero (n ∷ ns) e = refl
others_go_on (suc h) (suc i) (n ∷ ns) e = others_go_on h i ns (down h i e)

after_here : {T : Type 0} (counts : List (Option ℕ)) (h : ℕ) (s : Signal T) (r : Reading) → r.hub ≡ h → slice_get counts h ≡ Some (Some r.reached) → IsReadAt (counts_after h s counts) (reading_after s r)
after_here counts h (Next x) r at e = ap (slice_get (item_counted h counts)) at ∙ one_further h r.reached counts e
after_here counts h Complete r at e = tt
after_here counts h (Error c) r at e = tt

after_there : {T : Type 0} (counts : List (Option ℕ)) (h : ℕ) (s : Signal T) (o : Option Reading) → reads_hub h o ≡ false → IsReadAt counts o → IsReadAt (counts_after h s counts) o
after_there counts h s None e at = tt
after_there counts h (Next x) (Some r) e at = others_stay h r.hub counts e ∙ at
after_there counts h Complete (Some r) e at = others_go_on h r.hub counts e ∙ at
after_there counts h (Error c) (Some r) e at = others_go_on h r.hub counts e ∙ at

node_reads : {M T : Type 0} (b : Machine M T) (h : ℕ) (s : Signal T) (c : Bool) (n n' : M) → reads_hub h (b.reads n) ≡ c → IsTakenWhere b s c n n' → (counts : List (Option ℕ)) → IsReadAt counts (b.reads n) → IsReadAt (counts_after h s counts) (b.reads n')
node_reads {M} b h s false n n' reads same counts at = let R : M → Type 0 = λ k. IsReadAt (counts_after h s counts) (b.reads k) in subst R (sym same) (after_there counts h s (b.reads n) reads at)
node_reads b h s true n n' reads taken counts at =
    let r = taken.on.reading in
    let R : Option Reading → Type 0 = λ o. IsReadAt (counts_after h s counts) o in
    subst R (sym taken.on.reads_on) (after_here counts h s r (reads_it h (b.reads n) r reads taken.on.read) (read_there counts h (b.reads n) r at reads taken.on.read))

none_after : {T : Type 0} (s : Signal T) (r : Reading) (h : ℕ) → ends_input s ≡ true → reads_hub h (reading_after s r) ≡ false
none_after (Next x) r h e = cc
none_after Complete r h e = refl
none_after (Error c) r h e = refl

node_over : {M T : Type 0} (b : Machine M T) (h : ℕ) (s : Signal T) (c : Bool) (n n' : M) → reads_hub h (b.reads n) ≡ c → IsTakenWhere b s c n n' → ends_input s ≡ true → reader_at b h n' ≡ 0
node_over b h s false n n' reads same e = ap (reader_at b h) same ∙ ap (λ c. if c then 1 else 0) reads
node_over b h s true n n' reads taken e = ap (λ o. if reads_hub h o then 1 else 0) taken.on.reads_on ∙ ap (λ c. if c then 1 else 0) (none_after s taken.on.reading h e)

-- ---- a row

-- its size, its edges and what went over them, and what its nodes recorded stay, and the same calls may allocate
pub record RowStays {M T : Type 0} (b : Machine M T) (t t' : Inputs M) : Type 0 where
  pub size_is : size t' ≡ size t
  pub edges_are : edges_in t' ≡ edges_in t
  pub sent_is : sent_over t' ≡ sent_over t
  pub notes_are : notes_of b t' ≡ notes_of b t
  pub calls : (a : Allocates) → row_allocates b a t' ≡ row_allocates b a t

row_same : {M T : Type 0} (b : Machine M T) (t t' : Inputs M) → t' ≡ t → RowStays b t t'
row_same b t t' e = record { size_is = ap size e; edges_are = ap edges_in e; sent_is = ap sent_over e; notes_are = ap (notes_of b) e; calls = λ a. ap (row_allocates b a) e }

pub row_stays : {M T : Type 0} (b : Machine M T) (h : ℕ) (s : Signal T) (t t' : Inputs M) → IsRowHanded b h s t t' → RowStays b t t'
row_stays b h s End t' k = row_same b End t' k
row_stays {M} {T} b h s (More' e n p below q beside) t' k =
    let R : Inputs M → Type 0 = λ u. RowStays b (More' e n p below q beside) u in
    let rest = row_stays b h s beside k.2 k.5 in
    subst R (sym k.3) (join rest (at (λ u. row_stays b h s below k.1 u) (is_live e.state) k.4))
  where
    at : (IsRowHanded b h s below k.1 → RowStays b below k.1) → (l : Bool) → OneOf l (IsNodeHanded b h s n k.0 × IsRowHanded b h s below k.1) ((k.0 ≡ n) × (k.1 ≡ below)) → Stays b n k.0 × RowStays b below k.1
    at down true o = (node_stays b s (reads_hub h (b.reads n)) n k.0 o.0, down o.1)
    at down false o = (let S : M → Type 0 = λ x. Stays b n x in subst S (sym o.0) (node_same b n), row_same b below k.1 o.1)

    join : RowStays b beside k.2 → Stays b n k.0 × RowStays b below k.1 → RowStays b (More' e n p below q beside) (More' e k.0 p k.1 q k.2)
    join rest o = record {
      size_is = ap (λ x. x + size k.2 + 1) o.1.size_is ∙ ap (λ x. size below + x + 1) rest.size_is;
      edges_are = ap (λ x. edge_view e ∷ (x ++ edges_in k.2)) o.1.edges_are ∙ ap (λ x. edge_view e ∷ (edges_in below ++ x)) rest.edges_are;
      sent_is = ap (λ x. e.demand.sent ∷ x) rest.sent_is;
      notes_are = ap (λ x. x ∷ (notes_of b k.1 ++ notes_of b k.2)) o.0.recorded ∙ (ap (λ x. b.recorded n ∷ (x ++ notes_of b k.2)) o.1.notes_are ∙ ap (λ x. b.recorded n ∷ (notes_of b below ++ x)) rest.notes_are);
      calls = λ a.
          ap (λ c. c || (row_allocates b a k.1 || row_allocates b a k.2)) (o.0.calls a)
          ∙ (ap (λ c. node_allocates b a n || (c || row_allocates b a k.2)) (o.1.calls a) ∙ ap (λ c. node_allocates b a n || (row_allocates b a below || c)) (rest.calls a));
    }

-- the same comes in
pub row_value : {M T : Type 0} (b : Machine M T) (h : ℕ) (s : Signal T) (t t' : Inputs M) → IsRowHanded b h s t t' → (m : Meaning T) (counts : List (Option ℕ)) (hubs : List (Stream T)) → IsRowReadAt b counts t → IsNextOf counts hubs h s → (further : List Note) (at : ℕ) → comes_in b m hubs further t' at ≡ comes_in b m hubs further t at
row_value b h s End t' k m counts hubs reads next further pos = ap (λ u. comes_in b m hubs further u pos) k
row_value {M} {T} b h s (More' e n p below q beside) t' k m counts hubs reads next further pos =
    let side = row_value b h s beside k.2 k.5 m counts hubs reads.1 next further (pos + 1 + size below) in
    ap (λ u. comes_in b m hubs further u pos) k.3
    ∙ (ap (λ j. beside_of (out_of b m hubs k.0 (comes_in b m hubs further k.1 (pos + 1)) (slice_get further pos)) (comes_in b m hubs further k.2 (pos + 1 + j))) (at_size (λ u. (row_stays b h s below k.1 u).size_is) (is_live e.state) k.4)
    ∙ (ap (λ o. beside_of o (comes_in b m hubs further k.2 (pos + 1 + size below))) (at (λ o r. row_value b h s below k.1 o m counts hubs r next further (pos + 1)) (is_live e.state) refl k.4)
    ∙ ap (λ o. beside_of (out_of b m hubs n (comes_in b m hubs further below (pos + 1)) (slice_get further pos)) o) side))
  where
    at_size : (IsRowHanded b h s below k.1 → size k.1 ≡ size below) → (l : Bool) → OneOf l (IsNodeHanded b h s n k.0 × IsRowHanded b h s below k.1) ((k.0 ≡ n) × (k.1 ≡ below)) → size k.1 ≡ size below
    at_size down true o = down o.1
    at_size down false o = ap size o.1

    at : (IsRowHanded b h s below k.1 → IsRowReadAt b counts below → comes_in b m hubs further k.1 (pos + 1) ≡ comes_in b m hubs further below (pos + 1)) → (l : Bool) → is_live e.state ≡ l → OneOf l (IsNodeHanded b h s n k.0 × IsRowHanded b h s below k.1) ((k.0 ≡ n) × (k.1 ≡ below)) →
        out_of b m hubs k.0 (comes_in b m hubs further k.1 (pos + 1)) (slice_get further pos) ≡ out_of b m hubs n (comes_in b m hubs further below (pos + 1)) (slice_get further pos)
    at down false l o = ap (λ x. out_of b m hubs x (comes_in b m hubs further k.1 (pos + 1)) (slice_get further pos)) o.0 ∙ ap (λ u. out_of b m hubs n (comes_in b m hubs further u (pos + 1)) (slice_get further pos)) o.1
    at down true l o = elim reads.0 [
      | inl dead ↦ absurd (both_ways _ dead l)
      | inr r ↦
          node_out b h s (reads_hub h (b.reads n)) n k.0 refl o.0 m counts hubs r.0 next (comes_in b m hubs further k.1 (pos + 1)) (slice_get further pos)
          ∙ ap (λ x. out_of b m hubs n x (slice_get further pos)) (down o.1 r.1)
    ]

-- how far its nodes got
pub row_reads : {M T : Type 0} (b : Machine M T) (h : ℕ) (s : Signal T) (t t' : Inputs M) → IsRowHanded b h s t t' → (counts : List (Option ℕ)) → IsRowReadAt b counts t → IsRowReadAt b (counts_after h s counts) t'
row_reads {M} b h s End t' k counts reads = let R : Inputs M → Type 0 = λ u. IsRowReadAt b (counts_after h s counts) u in subst R (sym k) tt
row_reads {M} {T} b h s (More' e n p below q beside) t' k counts reads =
    let R : Inputs M → Type 0 = λ u. IsRowReadAt b (counts_after h s counts) u in
    subst R (sym k.3) (at (λ o r. row_reads b h s below k.1 o counts r) (is_live e.state) refl k.4, row_reads b h s beside k.2 k.5 counts reads.1)
  where
    at : (IsRowHanded b h s below k.1 → IsRowReadAt b counts below → IsRowReadAt b (counts_after h s counts) k.1) → (l : Bool) → is_live e.state ≡ l → OneOf l (IsNodeHanded b h s n k.0 × IsRowHanded b h s below k.1) ((k.0 ≡ n) × (k.1 ≡ below)) →
        (is_live e.state ≡ false) ⊎ (IsReadAt (counts_after h s counts) (b.reads k.0) × IsRowReadAt b (counts_after h s counts) k.1)
    at down false l o = inl l
    at down true l o = elim reads.0 [ inl dead ↦ absurd (both_ways _ dead l) | inr r ↦ inr (node_reads b h s (reads_hub h (b.reads n)) n k.0 refl o.0 counts r.0, down o.1 r.1) ]

-- after an ending none of them reads the hub
pub row_over : {M T : Type 0} (b : Machine M T) (h : ℕ) (s : Signal T) (t t' : Inputs M) → IsRowHanded b h s t t' → ends_input s ≡ true → readers_in b h t' ≡ 0
row_over b h s End t' k e = ap (readers_in b h) k
row_over {M} {T} b h s (More' e n p below q beside) t' k over =
    let rest = row_over b h s beside k.2 k.5 over in
    ap (readers_in b h) k.3 ∙ (ap (λ j. (if is_live e.state then reader_at b h k.0 + readers_in b h k.1 else 0) + j) rest ∙ ap (λ j. j + 0) (at (λ o. row_over b h s below k.1 o over) (is_live e.state) k.4))
  where
    at : (IsRowHanded b h s below k.1 → readers_in b h k.1 ≡ 0) → (l : Bool) → OneOf l (IsNodeHanded b h s n k.0 × IsRowHanded b h s below k.1) ((k.0 ≡ n) × (k.1 ≡ below)) → (if l then reader_at b h k.0 + readers_in b h k.1 else 0) ≡ 0
    at down false o = refl
    at down true o = ap (λ j. j + readers_in b h k.1) (node_over b h s (reads_hub h (b.reads n)) n k.0 refl o.0 over) ∙ (zero-add (readers_in b h k.1) ∙ down o.1)

-- the counts along its edges
owner_balanced : {M T : Type 0} (b : Machine M T) (n n' : M) (taken taken' : List ℕ) (sent : ℕ) (row row' : Type 0) → Stays b n n' → taken' ≡ taken → (row → row') → IsOwnerBalanced b n taken sent row → IsOwnerBalanced b n' taken' sent row'
owner_balanced {M} {T} b n n' taken taken' sent row row' stays same down h = elim h [
  | inl f ↦ inl (stays.counts.stays_ended f)
  | inr k ↦ by_ended (b.ended n') refl k
]
  where
    by_ended : (c : Bool) → b.ended n' ≡ c → (b.ended n ≡ false) × b.counted n taken sent × row → IsOwnerBalanced b n' taken' sent row'
    by_ended true e k = inl e
    by_ended false e k = let C : List ℕ → Type 0 = λ l. b.counted n' l sent in inr (e, subst C (sym same) (stays.counts.counts e taken sent k.1), down k.2)

pub row_balanced : {M T : Type 0} (b : Machine M T) (h : ℕ) (s : Signal T) (r r' : M) → ((j : ℕ) → b.done r j ≡ true → b.done r' j ≡ true) → (i : ℕ) (t t' : Inputs M) → IsRowHanded b h s t t' → IsRowBalanced b r i t → IsRowBalanced b r' i t'
row_balanced {M} b h s r r' done i End t' k w = let R : Inputs M → Type 0 = λ u. IsRowBalanced b r' i u in subst R (sym k) tt
row_balanced {M} {T} b h s r r' done i (More' e n p below q beside) t' k w =
    let R : Inputs M → Type 0 = λ u. IsRowBalanced b r' i u in
    subst R (sym k.3) (elim w.0 [ inl d ↦ inl (done i d) | inr o ↦ inr (o.0, at (λ r2 done2 u v. row_balanced b h s n r2 done2 0 below k.1 u v) (is_live e.state) (ap is_live o.0) k.4 o.1) ], row_balanced b h s r r' done (i + 1) beside k.2 k.5 w.1)
  where
    at : ((r2 : M) → ((j : ℕ) → b.done n j ≡ true → b.done r2 j ≡ true) → IsRowHanded b h s below k.1 → IsRowBalanced b n 0 below → IsRowBalanced b r2 0 k.1) → (l : Bool) → l ≡ true → OneOf l (IsNodeHanded b h s n k.0 × IsRowHanded b h s below k.1) ((k.0 ≡ n) × (k.1 ≡ below)) → IsOwnerBalanced b n (sent_over below) e.demand.sent (IsRowBalanced b n 0 below) → IsOwnerBalanced b k.0 (sent_over k.1) e.demand.sent (IsRowBalanced b k.0 0 k.1)
    at deeper true l o v =
        let stays = node_stays b s (reads_hub h (b.reads n)) n k.0 o.0 in
        owner_balanced b n k.0 (sent_over below) (sent_over k.1) e.demand.sent (IsRowBalanced b n 0 below) (IsRowBalanced b k.0 0 k.1) stays (row_stays b h s below k.1 o.1).sent_is (deeper k.0 stays.counts.stays_done o.1) v
    at deeper false l o v = cc

-- what each node reads
same_goes : (o n : Option Reading) → n ≡ o → GoesOn o n
same_goes o n e = inl (ap (option_map origin_of) e)

after_goes : {T : Type 0} (s : Signal T) (r : Reading) → GoesOn (Some r) (reading_after s r)
after_goes (Next x) r = inl refl
after_goes Complete r = inr refl
after_goes (Error c) r = inr refl

node_goes : {M T : Type 0} (b : Machine M T) (s : Signal T) (c : Bool) (n n' : M) → IsTakenWhere b s c n n' → GoesOn (b.reads n) (b.reads n')
node_goes {M} {T} b s true n n' k =
    let G : Option Reading → Option Reading → Type 0 = GoesOn in
    subst (λ o. G o (b.reads n')) (sym k.on.read) (subst (λ o. G (Some k.on.reading) o) (sym k.on.reads_on) (after_goes s k.on.reading))
node_goes b s false n n' k = same_goes (b.reads n) (b.reads n') (ap b.reads k)

all_same : (os : List (Option Reading)) → AllGoOn os os
all_same [] = tt
all_same (o ∷ os) = (inl refl, all_same os)

all_both : (os ns ps qs : List (Option Reading)) → AllGoOn os ns → AllGoOn ps qs → AllGoOn (os ++ ps) (ns ++ qs)
all_both [] [] ps qs h k = k
all_both [] (n ∷ ns) ps qs h k = absurd h
all_both (o ∷ os) [] ps qs h k = absurd h
all_both (o ∷ os) (n ∷ ns) ps qs h k = (h.0, all_both os ns ps qs h.1 k)

row_goes : {M T : Type 0} (b : Machine M T) (h : ℕ) (s : Signal T) (t t' : Inputs M) → IsRowHanded b h s t t' → AllGoOn (row_readings b t) (row_readings b t')
row_goes b h s End t' k = let A : List (Option Reading) → Type 0 = λ l. AllGoOn [] l in subst A (sym (ap (row_readings b) k)) tt
row_goes {M} {T} b h s (More' e n p below q beside) t' k =
    let A : List (Option Reading) → Type 0 = λ l. AllGoOn (b.reads n ∷ (row_readings b below ++ row_readings b beside)) l in
    let first = by_live (is_live e.state) k.0 k.1 k.4 (λ j. row_goes b h s below k.1 j) in
    subst A (sym (ap (row_readings b) k.3)) (first.0, all_both (row_readings b below) (row_readings b k.1) (row_readings b beside) (row_readings b k.2) first.1 (row_goes b h s beside k.2 k.5))
  where
    by_live : (c : Bool) (n' : M) (below' : Inputs M) → OneOf c (IsNodeHanded b h s n n' × IsRowHanded b h s below below') ((n' ≡ n) × (below' ≡ below)) → (IsRowHanded b h s below below' → AllGoOn (row_readings b below) (row_readings b below')) →
        GoesOn (b.reads n) (b.reads n') × AllGoOn (row_readings b below) (row_readings b below')
    by_live true n' below' k rec = (node_goes b s (reads_hub h (b.reads n)) n n' k.0, rec k.1)
    by_live false n' below' k rec =
        let A : List (Option Reading) → Type 0 = λ l. AllGoOn (row_readings b below) l in
        (same_goes (b.reads n) (b.reads n') (ap b.reads k.0), subst A (sym (ap (row_readings b) k.1)) (all_same (row_readings b below)))

-- ---- a tree

pub tree_handed : {M T : Type 0} (b : Machine M T) (h : ℕ) (s : Signal T) (n n' : M) (t t' : Inputs M) → IsNodeHanded b h s n n' → IsRowHanded b h s t t' → IsHanded b h s (record { machine = n; inputs = t }) (record { machine = n'; inputs = t' })
tree_handed b h s n n' t t' node row =
    let stays = node_stays b s (reads_hub h (b.reads n)) n n' node in
    let rows = row_stays b h s t t' row in
    record {
      value = λ m counts hubs further at reads next.
          node_out b h s (reads_hub h (b.reads n)) n n' refl node m counts hubs reads.0 next (comes_in b m hubs further t' (at + 1)) (slice_get further at)
          ∙ ap (λ o. out_of b m hubs n o (slice_get further at)) (row_value b h s t t' row m counts hubs reads.1 next further (at + 1));
      reads = λ counts reads. (node_reads b h s (reads_hub h (b.reads n)) n n' refl node counts reads.0, row_reads b h s t t' row counts reads.1);
      ended = λ e. ap (λ j. j + readers_in b h t') (node_over b h s (reads_hub h (b.reads n)) n n' refl node e) ∙ (zero-add (readers_in b h t') ∙ row_over b h s t t' row e);
      notes = ap (λ x. x ∷ notes_of b t') stays.recorded ∙ ap (λ x. b.recorded n ∷ x) rows.notes_are;
      edges = rows.edges_are;
      balance = λ sent w. owner_balanced b n n' (sent_over t) (sent_over t') sent (IsRowBalanced b n 0 t) (IsRowBalanced b n' 0 t') stays rows.sent_is (row_balanced b h s n n' stays.counts.stays_done 0 t t' row) w;
      calls = λ a. ap (λ c. c || row_allocates b a t') (stays.calls a) ∙ ap (λ c. node_allocates b a n || c) (rows.calls a);
      reading = (node_goes b s (reads_hub h (b.reads n)) n n' node, row_goes b h s t t' row);
      root = node;
      below = row;
    }
