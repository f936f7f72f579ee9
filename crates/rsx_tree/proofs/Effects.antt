-- What a change of one edge says of the edges, and that the move was enabled.
use Rattle.std.proofs.Common.{◌≡◌, inl, inr, ℕ, zero, suc, ◌+◌, ◌-◌, ◌<◌, ◌≤◌, Bool, true, false, ◌&&◌, nat_eq, nat_le, List, [], ◌∷◌, ◌++◌, length, refl, ap, sym, ◌∙◌, subst, arith, length-append, Option, Some, option_map, slice_get}
use Rattle.std.proofs.lemmas.Bool.{true≢false, le-leb, lt-leb}
use Rattle.rsx_types.proofs.Numbers.{not_zero}
use Rattle.rsx_sources.specs.Prelude.{Meaning, Stream, Note, front_of}
use Rattle.rsx_sources.specs.declared.machine.Front.{Front}
use Rattle.rsx_sources.specs.declared.machine.Machine.{Ghosts as Machine}
use Rattle.rsx_tree.specs.declared.edge.Edge.{Edge}
use Rattle.rsx_tree.specs.declared.inputs.Inputs.{Inputs, End, More'}
use Rattle.rsx_tree.specs.Edges.{edge_view, EdgeView, asked_up_to, changed_at, closed_if}
use Rattle.rsx_tree.specs.Inputs.{Place, place, size, edges, notes_of, comes_in, out_of, beside_of, is_own, closed_row, closed_row_if, wanted_at, sent_edges, with_edge_at}
use Rattle.rsx_tree.specs.Tree.{ended_in}
use Rattle.rsx_tree.specs.Changed.{Change, IsChanged, IsAskedOver, IsSentOver}
use Rattle.rsx_tree.proofs.Changes.{chosen_first, chosen_second}
use Rattle.rsx_tree.proofs.Closes.{size_closed, size_closed_if}
use Rattle.rsx_tree.proofs.Rows.{size_sent, edges_closed}

-- ---- the place that changed

pub record Found {M : Type 0} (P : Change M) (o : Option (Place M)) : Type 0 where
  pub there : Place M
  pub is : o ≡ Some there
  pub e : Edge
  pub edge_is : there.edge ≡ edge_view e
  pub r' : M
  pub e' : Edge
  pub n' : M
  pub made : P there.receiver there.input there.asked there.sent e there.sender r' e' n'

elsewhere : {M : Type 0} (P : Change M) (o o' : Option (Place M)) → o ≡ o' → Found P o' → Found P o
elsewhere P o o' same f = let Q : Option (Place _) → Type 0 = λ x. Found P x in subst Q (sym same) f

pub found : {M : Type 0} (P : Change M) (ends : M → Bool) (r : M) (i asked sent : ℕ) (t : Inputs M) (at : ℕ) (r' : M) (t' : Inputs M) → IsChanged P ends r i asked sent t at r' t' → Found P (place r i asked sent t at)
found P ends r i asked sent End at r' t' h = absurd h
found {M} P ends r i asked sent (More' e n p below q beside) at r' t' h = elim h [
  | inl x ↦
      let Q : ℕ → Type 0 = λ k. Found P (place r i asked sent (More' e n p below q beside) k) in
      subst Q (sym x.at_is) (record { there = record { receiver = r; input = i; asked = asked; sent = sent; edge = edge_view e; sender = n }; is = refl; e = e; edge_is = refl; r' = r'; e' = x.e'; n' = x.n'; made = x.made })
  | inr y ↦ elim y [
    | inl x ↦ elsewhere P _ _ (chosen_second (nat_eq at 0) _ _ (not_zero at x.above) ∙ chosen_first (nat_le at (size below)) _ _ (le-leb at (size below) x.within)) (found P ends n 0 e.demand.asked e.demand.sent below (at - 1) x.n' x.mid x.made)
    | inr x ↦ elsewhere P _ _ (chosen_second (nat_eq at 0) _ _ (not_zero at (let l = x.beyond in omega arith)) ∙ chosen_second (nat_le at (size below)) _ _ (lt-leb at (size below) x.beyond)) (found P ends r (i + 1) asked sent beside (at - 1 - size below) r' x.beside' x.made)
  ]
]

-- ---- an Ask

pub length_edges : {M : Type 0} (t : Inputs M) → length (edges t) ≡ size t
length_edges End = refl
length_edges (More' e n p below q beside) = ap suc (length-append (edges below) (edges beside) ∙ (ap (λ k. k + length (edges beside)) (length_edges below) ∙ ap (λ k. size below + k) (length_edges beside))) ∙ suc_is (size below + size beside)
  where
    suc_is : (k : ℕ) → suc k ≡ k + 1
    suc_is k = omega arith

not_first : (f : EdgeView → EdgeView) (at : ℕ) (e : EdgeView) (es : List EdgeView) → 0 < at → changed_at f at (e ∷ es) ≡ e ∷ changed_at f (at - 1) es
not_first f at e es h = chosen_second (nat_eq at 0) _ _ (not_zero at h)

changed_left : (f : EdgeView → EdgeView) (at : ℕ) (es fs : List EdgeView) → at < length es → changed_at f at (es ++ fs) ≡ changed_at f at es ++ fs
changed_left f at [] fs h = absurd (omega arith)
changed_left f zero (e ∷ es) fs h = refl
changed_left f (suc k) (e ∷ es) fs h =
    not_first f (suc k) e (es ++ fs) (omega arith) ∙ (ap (λ l. e ∷ l) (changed_left f (suc k - 1) es fs (omega arith)) ∙ ap (λ l. l ++ fs) (sym (not_first f (suc k) e es (omega arith))))

changed_right : (f : EdgeView → EdgeView) (at : ℕ) (es fs : List EdgeView) → length es ≤ at → changed_at f at (es ++ fs) ≡ es ++ changed_at f (at - length es) fs
changed_right f at [] fs h = ap (λ k. changed_at f k fs) (less at)
  where
    less : (k : ℕ) → k ≡ k - 0
    less k = omega arith
changed_right f zero (e ∷ es) fs h = absurd (omega arith)
changed_right f (suc k) (e ∷ es) fs h =
    not_first f (suc k) e (es ++ fs) (omega arith) ∙ ap (λ l. e ∷ l) (changed_right f (suc k - 1) es fs (omega arith) ∙ ap (λ j. es ++ changed_at f j fs) (less k (length es)))
  where
    less : (k n : ℕ) → suc k - 1 - n ≡ suc k - suc n
    less k n = omega arith

pub record IsRowAsked {M T : Type 0} (b : Machine M T) (t : Inputs M) (at : ℕ) (o : Option (Place M)) (t' : Inputs M) : Type 0 where
  pub there : Place M
  pub is : o ≡ Some there
  pub edges : edges t' ≡ changed_at (asked_up_to (wanted_at b there)) at (edges t)
  pub edge : Edge
  pub row : t' ≡ with_edge_at at edge t
  pub size : size t' ≡ size t
  pub notes : notes_of b t' ≡ notes_of b t
  pub value : (m : Meaning T) (hubs : List (Stream T)) (further : List Note) (pos : ℕ) → comes_in b m hubs further t' pos ≡ comes_in b m hubs further t pos

pub row_asked : {M T : Type 0} (b : Machine M T) (ends : M → Bool) (r : M) (i asked sent : ℕ) (t : Inputs M) (at : ℕ) (r' : M) (t' : Inputs M) → ((n : M) → ends n ≡ false) → IsChanged (IsAskedOver b) ends r i asked sent t at r' t' → IsRowAsked b t at (place r i asked sent t at) t'
row_asked b ends r i asked sent End at r' t' never h = absurd h
row_asked {M} {T} b ends r i asked sent (More' e n p below q beside) at r' t' never h = elim h [
  | inl x ↦
      let Q : ℕ → Inputs M → Type 0 = λ k u. IsRowAsked b (More' e n p below q beside) k (place r i asked sent (More' e n p below q beside) k) u in
      let N : Inputs M → Type 0 = λ u. Q at u in
      let Z : ℕ → Type 0 = λ k. Q k (More' e x.n' p below q beside) in
      let here = x.made in
      subst N (sym x.new_is) (
      let K : ℕ → Type 0 = λ k. Q k (More' x.e' x.n' p below q beside) in
      subst K (sym x.at_is) (record {
        there = record { receiver = r; input = i; asked = asked; sent = sent; edge = edge_view e; sender = n };
        is = refl;
        edges = ap (λ v. v ∷ (edges below ++ edges beside)) here.edge;
        edge = x.e';
        row = ap (λ k. More' x.e' k p below q beside) here.sender;
        size = refl;
        notes = ap (λ k. b.recorded k ∷ (notes_of b below ++ notes_of b beside)) here.sender;
        value = λ m hubs further pos. ap (λ o. beside_of o (comes_in b m hubs further beside (pos + 1 + size below))) (ap (λ z. out_of b m hubs z (comes_in b m hubs further below (pos + 1)) (slice_get further pos)) here.sender);
      }))
  | inr y ↦ elim y [
    | inl x ↦
        let rec = row_asked b ends n 0 e.demand.asked e.demand.sent below (at - 1) x.n' x.mid never x.made in
        let f = asked_up_to (wanted_at b rec.there) in
        let sender : x.n' ≡ n = receiver_same b ends n 0 e.demand.asked e.demand.sent below (at - 1) x.n' x.mid x.made in
        let open_still : closed_row_if (ends x.n' && is_own below (at - 1)) x.mid ≡ x.mid = ap (λ c. closed_row_if (c && is_own below (at - 1)) x.mid) (never x.n') in
        let whole : t' ≡ More' e n p x.mid q beside = x.new_is ∙ (ap (λ z. More' e x.n' p z q beside) open_still ∙ ap (λ z. More' e z p x.mid q beside) sender) in
        let len = length_edges below in
        let inside : at - 1 < length (edges below) = let a = x.above in let w = x.within in omega (arith, len) in
        record {
          there = rec.there;
          is = chosen_second (nat_eq at 0) _ _ (not_zero at x.above) ∙ (chosen_first (nat_le at (size below)) _ _ (le-leb at (size below) x.within) ∙ rec.is);
          edges = ap edges whole ∙ (ap (λ es. edge_view e ∷ (es ++ edges beside)) rec.edges ∙ (ap (λ es. edge_view e ∷ es) (sym (changed_left f (at - 1) (edges below) (edges beside) inside)) ∙ sym (not_first f at (edge_view e) (edges below ++ edges beside) x.above)));
          edge = rec.edge;
          row = whole ∙ (ap (λ u. More' e n p u q beside) rec.row ∙ sym (chosen_second (nat_eq at 0) _ _ (not_zero at x.above) ∙ chosen_first (nat_le at (size below)) _ _ (le-leb at (size below) x.within)));
          size = ap size whole ∙ ap (λ k. k + size beside + 1) rec.size;
          notes = ap (notes_of b) whole ∙ ap (λ l. b.recorded n ∷ (l ++ notes_of b beside)) rec.notes;
          value = λ m hubs further pos. ap (λ u. comes_in b m hubs further u pos) whole ∙ (ap (λ o. beside_of (out_of b m hubs n o (slice_get further pos)) (comes_in b m hubs further beside (pos + 1 + size x.mid))) (rec.value m hubs further (pos + 1))
              ∙ ap (λ k. beside_of (out_of b m hubs n (comes_in b m hubs further below (pos + 1)) (slice_get further pos)) (comes_in b m hubs further beside (pos + 1 + k))) rec.size);
        }
    | inr x ↦
        let rec = row_asked b ends r (i + 1) asked sent beside (at - 1 - size below) r' x.beside' never x.made in
        let f = asked_up_to (wanted_at b rec.there) in
        let above : 0 < at = let l = x.beyond in omega arith in
        let len = length_edges below in
        let behind : length (edges below) ≤ at - 1 = let l = x.beyond in omega (arith, len) in
        record {
          there = rec.there;
          is = chosen_second (nat_eq at 0) _ _ (not_zero at above) ∙ (chosen_second (nat_le at (size below)) _ _ (lt-leb at (size below) x.beyond) ∙ rec.is);
          edges = ap edges x.new_is ∙ (ap (λ es. edge_view e ∷ (edges below ++ es)) (rec.edges ∙ ap (λ k. changed_at f (at - 1 - k) (edges beside)) (sym len)) ∙ (ap (λ es. edge_view e ∷ es) (sym (changed_right f (at - 1) (edges below) (edges beside) behind)) ∙ sym (not_first f at (edge_view e) (edges below ++ edges beside) above)));
          edge = rec.edge;
          row = x.new_is ∙ (ap (λ u. More' e n p below q u) rec.row ∙ sym (chosen_second (nat_eq at 0) _ _ (not_zero at above) ∙ chosen_second (nat_le at (size below)) _ _ (lt-leb at (size below) x.beyond)));
          size = ap size x.new_is ∙ ap (λ k. size below + k + 1) rec.size;
          notes = ap (notes_of b) x.new_is ∙ ap (λ l. b.recorded n ∷ (notes_of b below ++ l)) rec.notes;
          value = λ m hubs further pos. ap (λ u. comes_in b m hubs further u pos) x.new_is ∙ ap (λ o. beside_of (out_of b m hubs n (comes_in b m hubs further below (pos + 1)) (slice_get further pos)) o) (rec.value m hubs further (pos + 1 + size below));
        }
  ]
]
  where
    receiver_same : {M T : Type 0} (b : Machine M T) (ends : M → Bool) (r : M) (i asked sent : ℕ) (t : Inputs M) (at : ℕ) (r' : M) (t' : Inputs M) → IsChanged (IsAskedOver b) ends r i asked sent t at r' t' → r' ≡ r
    receiver_same b ends r i asked sent End at r' t' h = absurd h
    receiver_same b ends r i asked sent (More' e n p below q beside) at r' t' h = elim h [ inl x ↦ x.made.receiver | inr y ↦ elim y [ inl x ↦ x.receiver | inr x ↦ receiver_same b ends r (i + 1) asked sent beside (at - 1 - size below) r' x.beside' x.made ] ]

-- ---- a Send

pub ended_closed : {M T : Type 0} (b : Machine M T) (r : M) (t : Inputs M) (at : ℕ) → ended_in b r (closed_row t) at ≡ ended_in b r t at
ended_closed b r End at = refl
ended_closed b r (More' e n p below q beside) at = rw (ended_closed b n below (at - 1), size_closed below, ended_closed b r beside (at - 1 - size below)) refl

pub ended_closed_if : {M T : Type 0} (b : Machine M T) (c : Bool) (r : M) (t : Inputs M) (at : ℕ) → ended_in b r (closed_row_if c t) at ≡ ended_in b r t at
ended_closed_if b true r t at = ended_closed b r t at
ended_closed_if b false r t at = refl

pub edges_closed_if : {M : Type 0} (c : Bool) (t : Inputs M) → edges (closed_row_if c t) ≡ closed_if c (edges t)
edges_closed_if true t = edges_closed t
edges_closed_if false t = refl

-- the receiver of one of the row's own edges is the row's
pub own_ended : {M T : Type 0} (b : Machine M T) (m : Meaning T) (ends : M → Bool) (r : M) (i asked sent : ℕ) (t : Inputs M) (at : ℕ) (r' : M) (t' : Inputs M) → IsChanged (IsSentOver b m) ends r i asked sent t at r' t' → is_own t at ≡ true → ended_in b r' t' at ≡ b.ended r'
own_ended b m ends r i asked sent End at r' t' h o = absurd h
own_ended {M} b m ends r i asked sent (More' e n p below q beside) at r' t' h o = elim h [
  | inl x ↦ ap (λ u. ended_in b r' u at) x.new_is ∙ chosen_first (nat_eq at 0) (b.ended r') _ (ap (λ k. nat_eq k 0) x.at_is)
  | inr y ↦ elim y [
    | inl x ↦
        let not_own : is_own (More' e n p below q beside) at ≡ false = chosen_second (nat_eq at 0) _ _ (not_zero at x.above) ∙ chosen_first (nat_le at (size below)) false _ (le-leb at (size below) x.within) in
        absurd (true≢false (sym o ∙ not_own))
    | inr x ↦
        let above : 0 < at = let l = x.beyond in omega arith in
        let own : is_own beside (at - 1 - size below) ≡ true = sym (chosen_second (nat_eq at 0) _ _ (not_zero at above) ∙ chosen_second (nat_le at (size below)) false _ (lt-leb at (size below) x.beyond)) ∙ o in
        ap (λ u. ended_in b r' u at) x.new_is ∙ (chosen_second (nat_eq at 0) _ _ (not_zero at above) ∙ (chosen_second (nat_le at (size below)) _ _ (lt-leb at (size below) x.beyond)
        ∙ own_ended b m ends r (i + 1) asked sent beside (at - 1 - size below) r' x.beside' x.made own))
  ]
]

pub same_close : (a c own : Bool) → (own ≡ true → a ≡ c) → (c && own) ≡ (a && own)
same_close true true own h = refl
same_close false false own h = refl
same_close true false true h = sym (h refl)
same_close true false false h = refl
same_close false true true h = sym (h refl)
same_close false true false h = refl

pub record IsRowSent {M T : Type 0} (b : Machine M T) (m : Meaning T) (t : Inputs M) (at : ℕ) (o : Option (Place M)) (r' : M) (t' : Inputs M) : Type 0 where
  pub there : Place M
  pub front : Front
  pub is : o ≡ Some there
  pub offered : option_map front_of (b.waiting m there.sender) ≡ Some front
  pub edges : edges t' ≡ sent_edges (ended_in b r' t' at) front t at

pub row_sent : {M T : Type 0} (b : Machine M T) (m : Meaning T) (r : M) (i asked sent : ℕ) (t : Inputs M) (at : ℕ) (r' : M) (t' : Inputs M) → IsChanged (IsSentOver b m) (λ n. b.ended n) r i asked sent t at r' t' → IsRowSent b m t at (place r i asked sent t at) r' t'
row_sent b m r i asked sent End at r' t' h = absurd h
row_sent {M} {T} b m r i asked sent (More' e n p below q beside) at r' t' h = elim h [
  | inl x ↦
      let Q : ℕ → Inputs M → Type 0 = λ k u. IsRowSent b m (More' e n p below q beside) k (place r i asked sent (More' e n p below q beside) k) r' u in
      let N : Inputs M → Type 0 = λ u. Q at u in
      let K : ℕ → Type 0 = λ k. Q k (More' x.e' x.n' p below q beside) in
      subst N (sym x.new_is) (subst K (sym x.at_is) (record {
        there = record { receiver = r; input = i; asked = asked; sent = sent; edge = edge_view e; sender = n };
        front = front_of x.made.signal;
        is = refl;
        offered = ap (option_map front_of) x.made.offered;
        edges = ap (λ v. v ∷ (edges below ++ edges beside)) x.made.edge;
      }))
  | inr y ↦ elim y [
    | inl x ↦
        let rec = row_sent b m n 0 e.demand.asked e.demand.sent below (at - 1) x.n' x.mid x.made in
        let own = is_own below (at - 1) in
        let c = b.ended x.n' && own in
        let shut = closed_row_if c x.mid in
        let same_size : size shut ≡ size below = size_closed_if c x.mid ∙ size_sent b m (λ k. b.ended k) n 0 e.demand.asked e.demand.sent below (at - 1) x.n' x.mid x.made in
        let ended = ended_in b x.n' x.mid (at - 1) in
        let S : ℕ → Type 0 = λ k. at ≤ k in
        let ended_is : ended_in b r' t' at ≡ ended =
        ap (λ u. ended_in b r' u at) x.new_is ∙ (chosen_second (nat_eq at 0) _ _ (not_zero at x.above) ∙ (chosen_first (nat_le at (size shut)) _ _ (le-leb at (size shut) (subst S (sym same_size) x.within)) ∙ ended_closed_if b c x.n' x.mid (at - 1))) in
        let close_is : c ≡ (ended && own) = same_close ended (b.ended x.n') own (λ o. own_ended b m (λ k. b.ended k) n 0 e.demand.asked e.demand.sent below (at - 1) x.n' x.mid x.made o) in
        record {
          there = rec.there;
          front = rec.front;
          is = chosen_second (nat_eq at 0) _ _ (not_zero at x.above) ∙ (chosen_first (nat_le at (size below)) _ _ (le-leb at (size below) x.within) ∙ rec.is);
          offered = rec.offered;
          edges =
              ap edges x.new_is
              ∙ (ap (λ es. edge_view e ∷ (es ++ edges beside)) (edges_closed_if c x.mid ∙ (ap (λ z. closed_if z (edges x.mid)) close_is ∙ ap (λ es. closed_if (ended && own) es) rec.edges))
              ∙ (sym (chosen_second (nat_eq at 0) _ _ (not_zero at x.above) ∙ chosen_first (nat_le at (size below)) _ _ (le-leb at (size below) x.within))
              ∙ ap (λ z. sent_edges z rec.front (More' e n p below q beside) at) (sym ended_is)));
        }
    | inr x ↦
        let rec = row_sent b m r (i + 1) asked sent beside (at - 1 - size below) r' x.beside' x.made in
        let above : 0 < at = let l = x.beyond in omega arith in
        let ended = ended_in b r' x.beside' (at - 1 - size below) in
        let ended_is : ended_in b r' t' at ≡ ended = ap (λ u. ended_in b r' u at) x.new_is ∙ (chosen_second (nat_eq at 0) _ _ (not_zero at above) ∙ chosen_second (nat_le at (size below)) _ _ (lt-leb at (size below) x.beyond)) in
        record {
          there = rec.there;
          front = rec.front;
          is = chosen_second (nat_eq at 0) _ _ (not_zero at above) ∙ (chosen_second (nat_le at (size below)) _ _ (lt-leb at (size below) x.beyond) ∙ rec.is);
          offered = rec.offered;
          edges =
              ap edges x.new_is
              ∙ (ap (λ es. edge_view e ∷ (edges below ++ es)) rec.edges
              ∙ (sym (chosen_second (nat_eq at 0) _ _ (not_zero at above) ∙ chosen_second (nat_le at (size below)) _ _ (lt-leb at (size below) x.beyond))
              ∙ ap (λ z. sent_edges z rec.front (More' e n p below q beside) at) (sym ended_is)));
        }
  ]
]
