-- A signal that came over a link is handed to the node that reads it.
use Rattle.std.proofs.Common.{◌≡◌, ◌⊎◌, inl, inr, ℕ, zero, suc, ◌+◌, Bool, true, false, nat_eq, if◌then◌else◌, List, [], ◌∷◌, ◌++◌, refl, ap, sym, ◌∙◌, subst, arith, Option, Some, None, slice_get}
use Rattle.std.proofs.lemmas.Bool.Decides.{nat_tests}
use Rattle.rsx_sources.specs.Prelude.{Meaning, Stream, Signal, Next, Complete, Error, Reading, reads_hub}
use Rattle.rsx_sources.specs.declared.machine.Machine.{Ghosts as Machine}
use Rattle.rsx_tree.specs.Edges.{is_live}
use Rattle.rsx_tree.specs.Handed.{IsHandedOut, IsTakenWhere, is_room_for, reader_at, readers_in, times}
use Rattle.rsx_tree.specs.Handed as Tree
use Rattle.rsx_tree.specs.Reads.{IsReadAt, IsRowReadAt, IsTreeReadAt, readings}
use Rattle.rsx_tree.specs.declared.edge.EdgeState.{EdgeState}
use Rattle.rsx_tree.specs.declared.edge.EdgeState.TheVariants.{Live, Closed, Ended}
use Rattle.rsx_tree.specs.declared.inputs.Inputs.{Inputs, End, More'}
use Rattle.rsx_tree.specs.declared.node.Node.{Node}
use Rattle.rsx_pipe.proofs.Handing.{handed_counts}
use Rattle.rsx_pipe.specs.Output.{counts_in, with_signal_at}
use Rattle.rsx_pipe.specs.Part.{Part}
use Rattle.rsx_pipe.specs.Published.{IsHanded, has_room_for, readers}
use Rattle.rsx_pipe.specs.Tree.{IsBalanced}
use Rattle.rsx_link.specs.declared.up.Up.{Up}
use Rattle.rsx_rooted.proofs.Moves.{flows_handed}
use Rattle.rsx_rooted.specs.Local.{Begins, stream_of}
use Rattle.rsx_region.specs.Inlet.{replaced_at}
use Rattle.rsx_region.specs.Piece.{IsInStep, PieceStands}
use Rattle.rsx_region.proofs.Comes.{begins_next, counted_open, replaced_same, replaced_signal, stream_more}
use Rattle.rsx_region.proofs.ClearBefore.{clear_then, handed_clear}
use Rattle.rsx_region.proofs.Pieces.{all_go_on}

-- ---- a node that reads the hub counts how far it got

-- so many items were taken in of the hub, which goes on
abbrev IsCounted : ℕ → List (Option ℕ) → Type 0
IsCounted h counts = (c : ℕ) × (slice_get counts h ≡ Some (Some c))

eq_true : (x y : ℕ) → nat_eq x y ≡ true → x ≡ y
eq_true x y h = grind (arith, nat_tests, h)

one_of : (j k : ℕ) → j + k ≡ 1 → (j ≡ 1) ⊎ (k ≡ 1)
one_of zero k e = inr (plain k e)
  where
    plain : (k : ℕ) → 0 + k ≡ 1 → k ≡ 1
    plain k e = omega arith
one_of (suc j) k e = inl (none j k e)
  where
    none : (j k : ℕ) → suc j + k ≡ 1 → suc j ≡ 1
    none j k e = omega arith

-- 1 where it is so
abbrev count_if : Bool → ℕ
count_if t = if t then 1 else 0

reads_counted : {M T : Type 0} (b : Machine M T) (h : ℕ) (n : M) (counts : List (Option ℕ)) → reader_at b h n ≡ 1 → IsReadAt counts (b.reads n) → IsCounted h counts
reads_counted b h n counts one k = by_reading (b.reads n) one k
  where
    by_test : (r : Reading) (t : Bool) → nat_eq r.hub h ≡ t → count_if t ≡ 1 → slice_get counts r.hub ≡ Some (Some r.reached) → IsCounted h counts
    by_test r true is one k = (r.reached, ap (λ i. slice_get counts i) (sym (eq_true r.hub h is)) ∙ k)
    by_test r false is one k = cc

    by_reading : (o : Option Reading) → count_if (reads_hub h o) ≡ 1 → IsReadAt counts o → IsCounted h counts
    by_reading None one k = cc
    by_reading (Some r) one k = by_test r (nat_eq r.hub h) refl one k

-- a node over an edge, and what is below it
over_counted : {M T : Type 0} (b : Machine M T) (h : ℕ) (n : M) (below : Inputs M) (counts : List (Option ℕ)) (c : Bool) → (if c then reader_at b h n + readers_in b h below else 0) ≡ 1 → (c ≡ false) ⊎ (IsReadAt counts (b.reads n) × IsRowReadAt b counts below) → (readers_in b h below ≡ 1 → IsRowReadAt b counts below → IsCounted h counts) → IsCounted h counts
over_counted b h n below counts true one k rec = elim k [
  | inl dead ↦ cc
  | inr r ↦ elim (one_of (reader_at b h n) (readers_in b h below) one) [ inl x ↦ reads_counted b h n counts x r.0 | inr x ↦ rec x r.1 ]
]
over_counted b h n below counts false one k rec = cc

row_counted : {M T : Type 0} (b : Machine M T) (h : ℕ) (t : Inputs M) (counts : List (Option ℕ)) → readers_in b h t ≡ 1 → IsRowReadAt b counts t → IsCounted h counts
row_counted b h End counts one k = cc
row_counted b h (More' e n p below q beside) counts one k = elim (one_of (if is_live e.state then reader_at b h n + readers_in b h below else 0) (readers_in b h beside) one) [
  | inl here ↦ over_counted b h n below counts (is_live e.state) here k.0 (λ x r. row_counted b h below counts x r)
  | inr x ↦ row_counted b h beside counts x k.1
]

tree_counted : {M T : Type 0} (b : Machine M T) (h : ℕ) (t : Node M) (counts : List (Option ℕ)) → Tree.readers b h t ≡ 1 → IsTreeReadAt b counts t → IsCounted h counts
tree_counted b h t counts one k = elim (one_of (reader_at b h t.machine) (readers_in b h t.inputs) one) [ inl x ↦ reads_counted b h t.machine counts x k.0 | inr x ↦ row_counted b h t.inputs counts x k.1 ]

-- ---- a piece

-- a part of which a node reads the hub has a live root edge
pub read_live : {M T : Type 0} (b : Machine M T) (h : ℕ) (p : Part M) → readers b h p ≡ 1 → (p.root.state ≡ Live) × (Tree.readers b h p.tree ≡ 1)
read_live b h p one = by_state p.root.state one
  where
    by_state : (s : EdgeState) → (if is_live s then Tree.readers b h p.tree else 0) ≡ 1 → (s ≡ Live) × (Tree.readers b h p.tree ≡ 1)
    by_state Live k = (refl, k)
    by_state Ended k = cc
    by_state Closed k = cc

-- a node that is handed a signal crosses where it did
handed_crosses : {M T : Type 0} (b : Machine M T) (s : Signal T) (reads : Bool) (n n' : M) → IsTakenWhere b s reads n n' → b.crosses n' ≡ b.crosses n
handed_crosses b s true n n' h = h.calls.0
handed_crosses b s false n n' h = ap b.crosses h

pub in_step_handed : {M T : Type 0} (b : Machine M T) (h : ℕ) (s : Signal T) (p p' : Part M) (u : Up T) → IsHanded b h s p p' → IsInStep p u → IsInStep p' u
in_step_handed b h s p p' u k i = record { asked = ap (λ e. e.demand.asked) k.root ∙ i.asked; sent = ap (λ e. e.demand.sent) k.root ∙ i.sent }

pub stands_popped : {M T : Type 0} (b : Machine M T) (m : Meaning T) (taken : List (Stream T)) (old : Node M) (queued : List (Signal T)) (p p' : Part M) (u : Up T) (h : ℕ) (s : Signal T) (came came' : List (Signal T)) → slice_get taken h ≡ Some (stream_of came) → came' ≡ came ++ s ∷ [] → readers b h p ≡ 1 → IsHanded b h s p p' →
    PieceStands b m taken old queued p u → PieceStands b m (replaced_at h (stream_of came') taken) old queued p' u
stands_popped {M} {T} b m taken old queued p p' u h s came came' there more one k st =
    let r = read_live b h p one in
    let was = st.live r.0 in
    let handed = k.tree r.0 in
    let count = tree_counted b h p.tree (counts_in taken) r.1 was.reads in
    let goes_on = (counted_open h count.0 taken (stream_of came) count.1 there).0 in
    let is : replaced_at h (stream_of came') taken ≡ with_signal_at h s taken = replaced_signal h s taken (stream_of came) (stream_of came') there (ap stream_of more ∙ stream_more came s goes_on) in
    let P : List (Stream T) → Type 0 = λ l. PieceStands b m l old queued p' u in
    let R : List (Option ℕ) → Type 0 = λ l. IsTreeReadAt b l p'.tree in
    let still : p'.root.state ≡ Live = ap (λ e. e.state) k.root ∙ r.0 in
    subst P (sym is) (record {
      out = st.out;
      sent = st.sent;
      flow = flows_handed b m (Begins taken) (Begins (with_signal_at h s taken)) old p.tree p'.tree st.out h s (counts_in taken) st.flow was.reads (begins_next h s taken (stream_of came) there goes_on) handed;
      step = in_step_handed b h s p p' u k st.step;
      reading = all_go_on (readings b old) (readings b p.tree) (readings b p'.tree) st.reading handed.reading;
      crosses = handed_crosses b s (reads_hub h (b.reads p.tree.machine)) p.tree.machine p'.tree.machine handed.root ∙ st.crosses;
      live = λ _. record {
        unended = was.unended;
        balance = λ before all h. let C : ℕ → Type 0 = λ c. IsBalanced b p'.tree c in subst C (ap (λ e. e.demand.sent) (sym k.root)) (handed.balance p.root.demand.sent (was.balance before (all ∙ ap (λ e. e.demand.sent) k.root) h));
        reads = subst R (sym (handed_counts h s taken)) (handed.reads (counts_in taken) was.reads);
        clear = clear_then b old p.tree p'.tree was.clear (handed_clear b h s p.tree p'.tree handed);
      };
      ended = λ e. let l = still in cc;
      closed = λ e. let l = still in cc;
    })

-- nothing came
pub stands_left : {M T : Type 0} (b : Machine M T) (m : Meaning T) (taken : List (Stream T)) (old : Node M) (queued : List (Signal T)) (p : Part M) (u : Up T) (h : ℕ) (came came' : List (Signal T)) → slice_get taken h ≡ Some (stream_of came) → came' ≡ came → PieceStands b m taken old queued p u → PieceStands b m (replaced_at h (stream_of came') taken) old queued p u
stands_left {M} {T} b m taken old queued p u h came came' there same st =
    let is : replaced_at h (stream_of came') taken ≡ taken = ap (λ l. replaced_at h (stream_of l) taken) same ∙ replaced_same h (stream_of came) taken there in
    let P : List (Stream T) → Type 0 = λ l. PieceStands b m l old queued p u in
    subst P (sym is) st

-- ---- out of the list of one

pub one_signal : {T : Type 0} (n : ℕ) (old before : List (Signal T)) (s : Signal T) → before ≡ [] → old ≡ before ++ s ∷ [] → n ≡ 1 → old ≡ times (0 + n) s
one_signal {T} n old before s none is one =
    let N : ℕ → Type 0 = λ k. s ∷ [] ≡ times (0 + k) s in
    is ∙ (ap (λ l. l ++ s ∷ []) none ∙ subst N (sym one) refl)

pub room_there : {T : Type 0} (s : Signal T) (r : Bool) → r ≡ true → is_room_for s r ≡ true
room_there (Next x) r h = h
room_there Complete r h = refl
room_there (Error c) r h = refl

-- the signal was handed to the one node that reads the link
pub record Passed {M T : Type 0} (b : Machine M T) (h : ℕ) (p p' : Part M) (left : List (Signal T)) (s : Signal T) : Type 0 where
  pub reader : readers b h p ≡ 1
  pub room : has_room_for b h p ≡ true
  pub handed : IsHanded b h s p p'
  pub none : left ≡ []

pub passed_one : {M T : Type 0} (b : Machine M T) (h at : ℕ) (p p' : Part M) (old before left : List (Signal T)) (s : Signal T) → at ≡ h → (readers b at p ≡ 1) × (has_room_for b at p ≡ true) → before ≡ [] → old ≡ before ++ s ∷ [] → IsHandedOut (readers b at p) (has_room_for b at p) old left (λ x. IsHanded b at x p p') → Passed b h p p' left s
passed_one {M} {T} b h at p p' old before left s same waits none all out =
    let done = out s 0 (one_signal (readers b at p) old before s none all waits.0) (room_there s (has_room_for b at p) waits.1) in
    let P : ℕ → Type 0 = λ i. Passed b i p p' left s in
    subst P same (record { reader = waits.0; room = waits.1; handed = done.0; none = done.1 })
