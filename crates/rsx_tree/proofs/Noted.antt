-- What a pick or a row of one node says of the whole: its choice comes first among what its node still chooses.
use Rattle.std.proofs.Common.{◌≡◌, ◌⊎◌, inl, inr, ℕ, zero, suc, ◌+◌, ◌-◌, ◌<◌, ◌≤◌, Bool, true, false, ◌&&◌, nat_eq, nat_le, List, [], ◌∷◌, ◌++◌, length, refl, ap, sym, ◌∙◌, subst, arith, length-append, Option, Some, None, option_map, slice_get}
use Rattle.std.proofs.lemmas.Bool.{le-leb, lt-leb}
use Rattle.std.proofs.Math.Nat.{zero-add}
use Rattle.rsx_types.proofs.Numbers.{not_zero}
use Rattle.rsx_sources.specs.Prelude.{Meaning, note_then, notes_then, Stream, Note, CountsStep, Incoming, incoming_of}
use Rattle.rsx_sources.specs.declared.machine.Machine.{Ghosts as Machine}
use Rattle.rsx_tree.specs.declared.edge.Edge.{Edge}
use Rattle.rsx_tree.specs.declared.inputs.Inputs.{Inputs, End, More'}
use Rattle.rsx_tree.specs.declared.node.Node.{Node}
use Rattle.rsx_tree.specs.Balance.{IsBalanced}
use Rattle.rsx_tree.specs.Changed.{Hold}
use Rattle.rsx_tree.specs.Chosen.{noted_at, stepped_edges, edges_after, ended_there, IsChosen, IsPickedAt, IsRowAt}
use Rattle.rsx_tree.specs.Edges.{EdgeView, edge_view, is_live, closed_if}
use Rattle.rsx_tree.specs.Inputs.{size, edges, notes_of, comes_in, out_of, beside_of, closed_row_if}
use Rattle.rsx_tree.specs.Stepped.{Step, IsStepped, IsSteppedAt, IsPickedHere, IsRecordedHere, IsRowMadeHere, StaysOver, Station, station, station_of, can_pick_in, can_row_in}
use Rattle.rsx_tree.specs.Tree.{notes, IsKept}
use Rattle.rsx_tree.proofs.Balances.{step_balanced, root_balanced}
use Rattle.rsx_tree.proofs.Changes.{chosen_first, chosen_second}
use Rattle.rsx_tree.proofs.Closes.{size_closed_if}
use Rattle.rsx_tree.proofs.Effects.{edges_closed_if}
use Rattle.rsx_tree.proofs.Rows.{comes_in_closed_if, notes_closed_if}

-- ---- what a choice put in front leaves as it is

get_noted : (p : ℕ) (f : Note → Note) (ks : List Note) → slice_get (noted_at p f ks) p ≡ option_map f (slice_get ks p)
get_noted zero f [] = refl
get_noted (suc p) f [] = refl
get_noted zero f (k ∷ ks) = refl
get_noted (suc p) f (k ∷ ks) = get_noted p f ks

get_other : (p q : ℕ) (f : Note → Note) (ks : List Note) → (p ≡ q → ⊥) → slice_get (noted_at p f ks) q ≡ slice_get ks q
get_other p q f [] h = refl
get_other zero zero f (k ∷ ks) h = absurd (h refl)
get_other zero (suc q) f (k ∷ ks) h = refl
get_other (suc p) zero f (k ∷ ks) h = refl
get_other (suc p) (suc q) f (k ∷ ks) h = get_other p q f ks (λ e. h (ap suc e))

length_noted : (p : ℕ) (f : Note → Note) (ks : List Note) → length (noted_at p f ks) ≡ length ks
length_noted p f [] = refl
length_noted zero f (k ∷ ks) = refl
length_noted (suc p) f (k ∷ ks) = ap suc (length_noted p f ks)

noted_same : (p : ℕ) (ks : List Note) → noted_at p (λ k. k) ks ≡ ks
noted_same p [] = refl
noted_same zero (k ∷ ks) = refl
noted_same (suc p) (k ∷ ks) = ap (λ l. k ∷ l) (noted_same p ks)

-- what is behind a note is in front of what follows it
noted_then : (p : ℕ) (back front : Note → Note) (x : Note) (ns ks : List Note) → slice_get ns p ≡ Some x → ((k : Note) → note_then (back x) k ≡ note_then x (front k)) → notes_then (noted_at p back ns) ks ≡ notes_then ns (noted_at p front ks)
noted_then p back front x [] ks is h = refl
noted_then zero back front x (n ∷ ns) [] is h = refl
noted_then (suc p) back front x (n ∷ ns) [] is h = refl
noted_then zero back front x (n ∷ ns) (k ∷ ks) is h =
    let same : n ≡ x = cc in
    ap (λ z. note_then (back z) k ∷ notes_then ns ks) same ∙ (ap (λ z. z ∷ notes_then ns ks) (h k) ∙ ap (λ z. note_then z (front k) ∷ notes_then ns ks) (sym same))
noted_then (suc p) back front x (n ∷ ns) (k ∷ ks) is h = ap (λ l. note_then n k ∷ l) (noted_then p back front x ns ks is h)

-- a choice at a node outside a row changes nothing in it
chosen_outside : {M T : Type 0} (b : Machine M T) (m : Meaning T) (hubs : List (Stream T)) (p : ℕ) (f : Note → Note) (further : List Note) (t : Inputs M) (pos : ℕ) → (p < pos) ⊎ (pos + size t ≤ p) → comes_in b m hubs (noted_at p f further) t pos ≡ comes_in b m hubs further t pos
chosen_outside b m hubs p f further End pos h = refl
chosen_outside {M} {T} b m hubs p f further (More' e n r below q beside) pos h =
    let s = size below in
    let u = size beside in
    let apart : p ≡ pos → ⊥ = λ e. apart_from p pos s u h e in
    let X : Option (List (Stream T)) → Option (Stream T) = λ o. out_of b m hubs n o (slice_get further pos) in
    ap (λ k. beside_of (out_of b m hubs n (comes_in b m hubs (noted_at p f further) below (pos + 1)) k) (comes_in b m hubs (noted_at p f further) beside (pos + 1 + size below))) (get_other p pos f further apart)
    ∙ (ap (λ o. beside_of (X o) (comes_in b m hubs (noted_at p f further) beside (pos + 1 + size below))) (chosen_outside b m hubs p f further below (pos + 1) (inside p pos s u h))
    ∙ ap (λ o. beside_of (X (comes_in b m hubs further below (pos + 1))) o) (chosen_outside b m hubs p f further beside (pos + 1 + size below) (behind p pos s u h)))
  where
    apart_from : (p pos s u : ℕ) → (p < pos) ⊎ (pos + (s + u + 1) ≤ p) → p ≡ pos → ⊥
    apart_from p pos s u h e = elim h [ inl l ↦ absurd (omega (arith, l, e)) | inr g ↦ absurd (omega (arith, g, e)) ]

    inside : (p pos s u : ℕ) → (p < pos) ⊎ (pos + (s + u + 1) ≤ p) → (p < pos + 1) ⊎ (pos + 1 + s ≤ p)
    inside p pos s u h = elim h [ inl l ↦ inl (omega (arith, l)) | inr g ↦ inr (omega (arith, g)) ]

    behind : (p pos s u : ℕ) → (p < pos) ⊎ (pos + (s + u + 1) ≤ p) → (p < pos + 1 + s) ⊎ (pos + 1 + s + u ≤ p)
    behind p pos s u h = elim h [ inl l ↦ inl (omega (arith, l)) | inr g ↦ inr (omega (arith, g)) ]

-- ---- the notes of a row

pub length_notes : {M T : Type 0} (b : Machine M T) (t : Inputs M) → length (notes_of b t) ≡ size t
length_notes b End = refl
length_notes b (More' e n p below q beside) =
    ap suc (length-append (notes_of b below) (notes_of b beside) ∙ (ap (λ k. k + length (notes_of b beside)) (length_notes b below) ∙ ap (λ k. size below + k) (length_notes b beside))) ∙ suc_is (size below + size beside)
  where
    suc_is : (k : ℕ) → suc k ≡ k + 1
    suc_is k = omega arith

noted_left : (at : ℕ) (f : Note → Note) (ns ks : List Note) → at < length ns → noted_at at f (ns ++ ks) ≡ noted_at at f ns ++ ks
noted_left at f [] ks h = absurd (omega arith)
noted_left zero f (n ∷ ns) ks h = refl
noted_left (suc at) f (n ∷ ns) ks h = ap (λ l. n ∷ l) (noted_left at f ns ks (omega arith))

plus_suc : (k l : ℕ) → suc k + l ≡ suc (k + l)
plus_suc k l = omega arith

noted_right : (at : ℕ) (f : Note → Note) (ns ks : List Note) → noted_at (length ns + at) f (ns ++ ks) ≡ ns ++ noted_at at f ks
noted_right at f [] ks = ap (λ k. noted_at k f ks) (zero-add at)
noted_right at f (n ∷ ns) ks = ap (λ k. noted_at k f (n ∷ (ns ++ ks))) (plus_suc (length ns) at) ∙ ap (λ l. n ∷ l) (noted_right at f ns ks)

pub get_left : {A : Type 0} (at : ℕ) (ns ks : List A) → at < length ns → slice_get (ns ++ ks) at ≡ slice_get ns at
get_left at [] ks h = absurd (omega arith)
get_left zero (n ∷ ns) ks h = refl
get_left (suc at) (n ∷ ns) ks h = get_left at ns ks (omega arith)

pub get_right : {A : Type 0} (at : ℕ) (ns ks : List A) → slice_get (ns ++ ks) (length ns + at) ≡ slice_get ks at
get_right at [] ks = ap (λ k. slice_get ks k) (zero-add at)
get_right at (n ∷ ns) ks = ap (λ k. slice_get (n ∷ (ns ++ ks)) k) (plus_suc (length ns) at) ∙ get_right at ns ks

-- ---- a step

-- what a step of a node puts in front of what it still chooses, and behind what it recorded
pub record IsNoting {M T : Type 0} (b : Machine M T) (m : Meaning T) (P : Step M) (front back : M → Note → Note) : Type 0 where
  pub value : (n : M) (asked sent : ℕ) (n' : M) → P n asked sent n' → (inc : Incoming T) (k : Note) → b.comes_out m n' inc k ≡ b.comes_out m n inc (front n k)
  pub recorded : (n : M) (asked sent : ℕ) (n' : M) → P n asked sent n' → b.recorded n' ≡ back n (b.recorded n)
  pub composes : (n : M) (asked sent : ℕ) (n' : M) → P n asked sent n' → (k : Note) → note_then (back n (b.recorded n)) k ≡ note_then (b.recorded n) (front n k)

-- such a step takes nothing and sends nothing
abbrev pub IsCountingStep : {M T : Type 0} → Machine M T → Step M → Type 0
IsCountingStep {M} b P = (n : M) (asked sent : ℕ) (n' : M) → P n asked sent n' → CountsStep b.counted b.ended b.done n n'

pub pick_notes : {M T : Type 0} (b : Machine M T) (m : Meaning T) (i : ℕ) → IsNoting b m (IsPickedHere b m i) (λ n k. note_then (b.recording n i) k) (λ n k. note_then k (b.recording n i))
pick_notes b m i = record {
  value = λ n a s n' h inc k. h.value inc k;
  recorded = λ n a s n' h. h.recorded;
  composes = λ n a s n' h k. h.composes k;
}

pub row_notes : {M T : Type 0} (b : Machine M T) (m : Meaning T) → IsNoting b m (IsRowMadeHere b m) (λ n k. k) (λ n k. k)
row_notes b m = record {
  value = λ n a s n' h inc k. h.value inc k;
  recorded = λ n a s n' h. h.recorded;
  composes = λ n a s n' h k. refl;
}

out_noted : {M T : Type 0} (b : Machine M T) (m : Meaning T) (hubs : List (Stream T)) (n n' : M) (f : Note → Note) → ((inc : Incoming T) (k : Note) → b.comes_out m n' inc k ≡ b.comes_out m n inc (f k)) → (o : Option (List (Stream T))) (k : Option Note) → out_of b m hubs n' o k ≡ out_of b m hubs n o (option_map f k)
out_noted b m hubs n n' f h o None = refl
out_noted b m hubs n n' f h None (Some k) = refl
out_noted b m hubs n n' f h (Some vs) (Some k) = h (incoming_of hubs vs) k

-- what a step of the node `at` of a row says of the row
pub record IsRowNoted {M T : Type 0} (b : Machine M T) (m : Meaning T) (P : Step M) (front back : M → Note → Note) (t : Inputs M) (at : ℕ) (o : Option (Station M)) (t' : Inputs M) (o' : Option (Station M)) : Type 0 where
  pub there : Station M
  pub after : M
  pub is : o ≡ Some there
  pub live : is_live there.state ≡ true
  pub made : P there.machine there.asked there.sent after
  pub ended : ended_there b o' ≡ b.ended after
  pub within : at < size t
  pub size : size t' ≡ size t
  pub value : (hubs : List (Stream T)) (further : List Note) (pos : ℕ) → comes_in b m hubs further t' pos ≡ comes_in b m hubs (noted_at (pos + at) (front there.machine) further) t pos
  pub notes : notes_of b t' ≡ noted_at at (back there.machine) (notes_of b t)
  pub note : slice_get (notes_of b t) at ≡ Some (b.recorded there.machine)
  pub edges : edges t' ≡ stepped_edges (b.ended after) t at

noted_here : {M T : Type 0} (b : Machine M T) (m : Meaning T) (P : Step M) (front back : M → Note → Note) → IsNoting b m P front back → (e : Edge) (n n' : M) (p : Hold) (below : Inputs M) (q : Hold) (beside : Inputs M) → is_live e.state ≡ true → P n e.demand.asked e.demand.sent n' →
    IsRowNoted b m P front back (More' e n p below q beside) 0 (station (More' e n p below q beside) 0) (More' e n' p (closed_row_if (b.ended n' && true) below) q beside) (station (More' e n' p (closed_row_if (b.ended n' && true) below) q beside) 0)
noted_here {M} {T} b m P front back law e n n' p below q beside live made =
    let c = b.ended n' && true in
    let f = front n in
    let same_size : size (closed_row_if c below) ≡ size below = size_closed_if c below in
    record {
      there = record { machine = n; state = e.state; asked = e.demand.asked; sent = e.demand.sent };
      after = n';
      is = refl;
      live = live;
      made = made;
      ended = refl;
      within = omega arith;
      size = ap (λ k. k + size beside + 1) same_size;
      value = λ hubs further pos.
          let ch = noted_at (pos + 0) f further in
          let at_is : pos + 0 ≡ pos = omega arith in
          let get : slice_get ch pos ≡ option_map f (slice_get further pos) = ap (λ k. slice_get (noted_at k f further) pos) at_is ∙ get_noted pos f further in
          let low : comes_in b m hubs ch below (pos + 1) ≡ comes_in b m hubs further below (pos + 1) = chosen_outside b m hubs (pos + 0) f further below (pos + 1) (inl (omega arith)) in
          let side : comes_in b m hubs ch beside (pos + 1 + size below) ≡ comes_in b m hubs further beside (pos + 1 + size below) = chosen_outside b m hubs (pos + 0) f further beside (pos + 1 + size below) (inl (omega arith)) in
          ap (λ k. beside_of (out_of b m hubs n' (comes_in b m hubs further (closed_row_if c below) (pos + 1)) (slice_get further pos)) (comes_in b m hubs further beside (pos + 1 + k))) same_size
          ∙ (ap (λ o. beside_of (out_of b m hubs n' o (slice_get further pos)) (comes_in b m hubs further beside (pos + 1 + size below))) (comes_in_closed_if b m hubs further c below (pos + 1))
          ∙ (ap (λ o. beside_of o (comes_in b m hubs further beside (pos + 1 + size below))) (out_noted b m hubs n n' f (law.value n e.demand.asked e.demand.sent n' made) (comes_in b m hubs further below (pos + 1)) (slice_get further pos))
          ∙ (ap (λ k. beside_of (out_of b m hubs n (comes_in b m hubs further below (pos + 1)) k) (comes_in b m hubs further beside (pos + 1 + size below))) (sym get)
          ∙ (ap (λ o. beside_of (out_of b m hubs n o (slice_get ch pos)) (comes_in b m hubs further beside (pos + 1 + size below))) (sym low)
          ∙ ap (λ o. beside_of (out_of b m hubs n (comes_in b m hubs ch below (pos + 1)) (slice_get ch pos)) o) (sym side)))));
      notes = ap (λ k. k ∷ (notes_of b (closed_row_if c below) ++ notes_of b beside)) (law.recorded n e.demand.asked e.demand.sent n' made) ∙ ap (λ l. back n (b.recorded n) ∷ (l ++ notes_of b beside)) (notes_closed_if b c below);
      note = refl;
      edges = ap (λ es. edge_view e ∷ (es ++ edges beside)) (edges_closed_if c below ∙ ap (λ k. closed_if k (edges below)) (and_true (b.ended n')));
    }
  where
    and_true : (x : Bool) → (x && true) ≡ x
    and_true true = refl
    and_true false = refl

pub step_noted : {M T : Type 0} (b : Machine M T) (m : Meaning T) (P : Step M) (front back : M → Note → Note) → IsNoting b m P front back → (t : Inputs M) (at : ℕ) (t' : Inputs M) → IsStepped P b.ended t at t' → IsRowNoted b m P front back t at (station t at) t' (station t' at)
step_noted b m P front back law End at t' h = absurd h
step_noted {M} {T} b m P front back law (More' e n p below q beside) at t' h = elim h [
  | inl x ↦
      let whole = More' e n p below q beside in
      let N : Inputs M → Type 0 = λ u. IsRowNoted b m P front back whole at (station whole at) u (station u at) in
      let K : ℕ → Type 0 = λ k. IsRowNoted b m P front back whole k (station whole k) (More' e x.n' p (closed_row_if (b.ended x.n' && true) below) q beside) (station (More' e x.n' p (closed_row_if (b.ended x.n' && true) below) q beside) k) in
      subst N (sym x.new_is) (subst K (sym x.at_is) (noted_here b m P front back law e n x.n' p below q beside x.live x.made))
  | inr y ↦ elim y [
    | inl x ↦
        let rec = step_noted b m P front back law below (at - 1) x.below' x.made in
        let f = front rec.there.machine in
        let g = back rec.there.machine in
        let len = length_notes b below in
        let lt = rec.within in
        let a = x.above in
        let w = x.within in
        let pre : at ≡ suc (at - 1) = omega arith in
        let S : ℕ → Type 0 = λ k. at ≤ k in
        record {
          there = rec.there;
          after = rec.after;
          is = chosen_second (nat_eq at 0) _ _ (not_zero at x.above) ∙ (chosen_first (nat_le at (size below)) _ _ (le-leb at (size below) x.within) ∙ rec.is);
          live = rec.live;
          made = rec.made;
          ended = ap (λ u. ended_there b (station u at)) x.new_is ∙ (ap (ended_there b) (chosen_second (nat_eq at 0) _ _ (not_zero at x.above) ∙ chosen_first (nat_le at (size x.below')) _ _ (le-leb at (size x.below') (subst S (sym rec.size) x.within))) ∙ rec.ended);
          within = omega arith;
          size = ap size x.new_is ∙ ap (λ k. k + size beside + 1) rec.size;
          value = λ hubs further pos.
              let ch = noted_at (pos + at) f further in
              let get : slice_get ch pos ≡ slice_get further pos = get_other (pos + at) pos f further (λ q. absurd (omega (arith, q, a))) in
              let same : pos + 1 + (at - 1) ≡ pos + at = omega arith in
              let low : comes_in b m hubs further x.below' (pos + 1) ≡ comes_in b m hubs ch below (pos + 1) = rec.value hubs further (pos + 1) ∙ ap (λ k. comes_in b m hubs (noted_at k f further) below (pos + 1)) same in
              let side : comes_in b m hubs ch beside (pos + 1 + size below) ≡ comes_in b m hubs further beside (pos + 1 + size below) = chosen_outside b m hubs (pos + at) f further beside (pos + 1 + size below) (inl (omega arith)) in
              ap (λ u. comes_in b m hubs further u pos) x.new_is
              ∙ (ap (λ o. beside_of (out_of b m hubs n o (slice_get further pos)) (comes_in b m hubs further beside (pos + 1 + size x.below'))) low
              ∙ (ap (λ k. beside_of (out_of b m hubs n (comes_in b m hubs ch below (pos + 1)) (slice_get further pos)) (comes_in b m hubs further beside (pos + 1 + k))) rec.size
              ∙ (ap (λ k. beside_of (out_of b m hubs n (comes_in b m hubs ch below (pos + 1)) k) (comes_in b m hubs further beside (pos + 1 + size below))) (sym get)
              ∙ ap (λ o. beside_of (out_of b m hubs n (comes_in b m hubs ch below (pos + 1)) (slice_get ch pos)) o) (sym side))));
          notes = ap (notes_of b) x.new_is ∙ (ap (λ l. b.recorded n ∷ (l ++ notes_of b beside)) rec.notes ∙ (ap (λ l. b.recorded n ∷ l) (sym (noted_left (at - 1) g (notes_of b below) (notes_of b beside) (omega (arith, len, lt)))) ∙ ap (λ k. noted_at k g (notes_of b (More' e n p below q beside))) (sym pre)));
          note = ap (λ k. slice_get (notes_of b (More' e n p below q beside)) k) pre ∙ (get_left (at - 1) (notes_of b below) (notes_of b beside) (omega (arith, len, lt)) ∙ rec.note);
          edges = ap edges x.new_is ∙ (ap (λ es. edge_view e ∷ (es ++ edges beside)) rec.edges ∙ sym (chosen_second (nat_eq at 0) _ _ (not_zero at x.above) ∙ chosen_first (nat_le at (size below)) _ _ (le-leb at (size below) x.within)));
        }
    | inr x ↦
        let rec = step_noted b m P front back law beside (at - 1 - size below) x.beside' x.made in
        let f = front rec.there.machine in
        let g = back rec.there.machine in
        let l = x.beyond in
        let w = rec.within in
        let above : 0 < at = omega arith in
        let len = length_notes b below in
        let pre : suc (length (notes_of b below) + (at - 1 - size below)) ≡ at = omega (arith, len) in
        record {
          there = rec.there;
          after = rec.after;
          is = chosen_second (nat_eq at 0) _ _ (not_zero at above) ∙ (chosen_second (nat_le at (size below)) _ _ (lt-leb at (size below) x.beyond) ∙ rec.is);
          live = rec.live;
          made = rec.made;
          ended = ap (λ u. ended_there b (station u at)) x.new_is ∙ (ap (ended_there b) (chosen_second (nat_eq at 0) _ _ (not_zero at above) ∙ chosen_second (nat_le at (size below)) _ _ (lt-leb at (size below) x.beyond)) ∙ rec.ended);
          within = omega arith;
          size = ap size x.new_is ∙ ap (λ k. size below + k + 1) rec.size;
          value = λ hubs further pos.
              let ch = noted_at (pos + at) f further in
              let get : slice_get ch pos ≡ slice_get further pos = get_other (pos + at) pos f further (λ q. absurd (omega (arith, q, above))) in
              let same : pos + 1 + size below + (at - 1 - size below) ≡ pos + at = omega arith in
              let low : comes_in b m hubs ch below (pos + 1) ≡ comes_in b m hubs further below (pos + 1) = chosen_outside b m hubs (pos + at) f further below (pos + 1) (inr (omega arith)) in
              let side : comes_in b m hubs further x.beside' (pos + 1 + size below) ≡ comes_in b m hubs ch beside (pos + 1 + size below) = rec.value hubs further (pos + 1 + size below) ∙ ap (λ k. comes_in b m hubs (noted_at k f further) beside (pos + 1 + size below)) same in
              ap (λ u. comes_in b m hubs further u pos) x.new_is
              ∙ (ap (λ o. beside_of (out_of b m hubs n (comes_in b m hubs further below (pos + 1)) (slice_get further pos)) o) side
              ∙ (ap (λ k. beside_of (out_of b m hubs n (comes_in b m hubs further below (pos + 1)) k) (comes_in b m hubs ch beside (pos + 1 + size below))) (sym get)
              ∙ ap (λ o. beside_of (out_of b m hubs n o (slice_get ch pos)) (comes_in b m hubs ch beside (pos + 1 + size below))) (sym low)));
          notes = ap (notes_of b) x.new_is ∙ (ap (λ l. b.recorded n ∷ (notes_of b below ++ l)) rec.notes ∙ (ap (λ l. b.recorded n ∷ l) (sym (noted_right (at - 1 - size below) g (notes_of b below) (notes_of b beside))) ∙ ap (λ k. noted_at k g (notes_of b (More' e n p below q beside))) pre));
          note = ap (λ k. slice_get (notes_of b (More' e n p below q beside)) k) (sym pre) ∙ (get_right (at - 1 - size below) (notes_of b below) (notes_of b beside) ∙ rec.note);
          edges = ap edges x.new_is ∙ (ap (λ es. edge_view e ∷ (edges below ++ es)) rec.edges ∙ sym (chosen_second (nat_eq at 0) _ _ (not_zero at above) ∙ chosen_second (nat_le at (size below)) _ _ (lt-leb at (size below) x.beyond)));
        }
  ]
]

-- ---- a step of a tree

abbrev pub node : {M : Type 0} → M → Inputs M → Node M
node r t = record { machine = r; inputs = t }

abbrev edges_of : {M : Type 0} → Node M → List EdgeView
edges_of t = edges t.inputs

-- what a step of the node `at` of a tree says of the tree
pub record IsTreeNoted {M T : Type 0} (b : Machine M T) (m : Meaning T) (P : Step M) (back : M → Note → Note) (old : Node M) (e : EdgeView) (at : ℕ) (new : Node M) : Type 0 where
  pub there : Station M
  pub after : M
  pub is : station_of old e at ≡ Some there
  pub live : is_live there.state ≡ true
  pub made : P there.machine there.asked there.sent after
  pub edges : edges_of new ≡ edges_after (ended_there b (station_of new e at)) old at
  pub notes : notes b new ≡ noted_at at (back there.machine) (notes b old)
  pub chosen : IsChosen b m old new
  pub balance : (s : ℕ) → IsBalanced b old s → IsBalanced b new s

-- what a step of the root says of what still comes out of the tree, and of what was recorded
pub root_chosen : {M T : Type 0} (b : Machine M T) (m : Meaning T) (P : Step M) (front back : M → Note → Note) → IsNoting b m P front back → (r r' : M) (t : Inputs M) (asked sent : ℕ) → P r asked sent r' → IsChosen b m (node r t) (node r' (closed_row_if (b.ended r' && true) t))
root_chosen {M} {T} b m P front back law r r' t asked sent made =
    let c = b.ended r' && true in
    let f = front r in
    record {
      choose = λ ks. noted_at 0 f ks;
      count = λ ks. length_noted 0 f ks;
      value = λ hubs further.
          let ch = noted_at 0 f further in
          ap (λ o. out_of b m hubs r' o (slice_get further 0)) (comes_in_closed_if b m hubs further c t 1)
          ∙ (out_noted b m hubs r r' f (law.value r asked sent r' made) (comes_in b m hubs further t 1) (slice_get further 0)
          ∙ (ap (λ k. out_of b m hubs r (comes_in b m hubs further t 1) k) (sym (get_noted 0 f further))
          ∙ ap (λ o. out_of b m hubs r o (slice_get ch 0)) (sym (chosen_outside b m hubs 0 f further t 1 (inl (omega arith))))));
      notes = λ ks.
          ap (λ l. notes_then l ks) (ap (λ k. k ∷ notes_of b (closed_row_if c t)) (law.recorded r asked sent r' made) ∙ ap (λ l. back r (b.recorded r) ∷ l) (notes_closed_if b c t))
          ∙ noted_then 0 (back r) f (b.recorded r) (b.recorded r ∷ notes_of b t) ks refl (law.composes r asked sent r' made);
      nodes = ap (λ l. suc (length l)) (notes_closed_if b c t);
    }

pub root_noted : {M T : Type 0} (b : Machine M T) (m : Meaning T) (P : Step M) (front back : M → Note → Note) → IsNoting b m P front back → IsCountingStep b P → (r r' : M) (t t' : Inputs M) (e : EdgeView) → is_live e.state ≡ true → P r e.asked e.sent r' → t' ≡ closed_row_if (b.ended r' && true) t →
    IsTreeNoted b m P back (node r t) e 0 (node r' t')
root_noted {M} {T} b m P front back law counts r r' t t' e live made shut =
    let c = b.ended r' && true in
    let Q : Inputs M → Type 0 = λ u. IsTreeNoted b m P back (node r t) e 0 (node r' u) in
    subst Q (sym shut) (record {
      there = record { machine = r; state = e.state; asked = e.asked; sent = e.sent };
      after = r';
      is = refl;
      live = live;
      made = made;
      edges = edges_closed_if c t ∙ ap (λ k. closed_if k (edges t)) (and_true (b.ended r'));
      notes = ap (λ k. k ∷ notes_of b (closed_row_if c t)) (law.recorded r e.asked e.sent r' made) ∙ ap (λ l. back r (b.recorded r) ∷ l) (notes_closed_if b c t);
      chosen = root_chosen b m P front back law r r' t e.asked e.sent made;
      balance = λ s k. root_balanced b r r' t s (counts r e.asked e.sent r' made) k;
    })
  where
    and_true : (x : Bool) → (x && true) ≡ x
    and_true true = refl
    and_true false = refl

-- the same of a step of a node below it
pub row_chosen : {M T : Type 0} (b : Machine M T) (m : Meaning T) (P : Step M) (front back : M → Note → Note) → IsNoting b m P front back → (r : M) (t t' : Inputs M) (at : ℕ) → IsStepped P b.ended t at t' → IsChosen b m (node r t) (node r t')
row_chosen b m P front back law r t t' at h =
    let rec = step_noted b m P front back law t at t' h in
    let f = front rec.there.machine in
    let g = back rec.there.machine in
    let next : 1 + at ≡ suc at = omega arith in
    record {
      choose = λ ks. noted_at (suc at) f ks;
      count = λ ks. length_noted (suc at) f ks;
      value = λ hubs further.
          ap (λ o. out_of b m hubs r o (slice_get further 0)) (rec.value hubs further 1 ∙ ap (λ k. comes_in b m hubs (noted_at k f further) t 1) next)
          ∙ ap (λ k. out_of b m hubs r (comes_in b m hubs (noted_at (suc at) f further) t 1) k) (sym (get_other (suc at) 0 f further (λ q. absurd (omega (arith, q)))));
      notes = λ ks.
          ap (λ l. notes_then (b.recorded r ∷ l) ks) rec.notes
          ∙ noted_then (suc at) g f (b.recorded rec.there.machine) (b.recorded r ∷ notes_of b t) ks rec.note (law.composes rec.there.machine rec.there.asked rec.there.sent rec.after rec.made);
      nodes = ap (λ l. suc (length l)) rec.notes ∙ ap suc (length_noted at g (notes_of b t));
    }

pub below_noted : {M T : Type 0} (b : Machine M T) (m : Meaning T) (P : Step M) (front back : M → Note → Note) → IsNoting b m P front back → IsCountingStep b P → (r : M) (t t' : Inputs M) (e : EdgeView) (at : ℕ) → IsStepped P b.ended t at t' → IsTreeNoted b m P back (node r t) e (suc at) (node r t')
below_noted b m P front back law counts r t t' e at h =
    let rec = step_noted b m P front back law t at t' h in
    record {
      there = rec.there;
      after = rec.after;
      is = rec.is;
      live = rec.live;
      made = rec.made;
      edges = rec.edges ∙ ap (λ c. stepped_edges c t at) (sym rec.ended);
      notes = ap (λ l. b.recorded r ∷ l) rec.notes;
      chosen = row_chosen b m P front back law r t t' at h;
      balance = λ s k. step_balanced b P counts r t at t' h s k;
    }

pub tree_noted : {M T : Type 0} (b : Machine M T) (m : Meaning T) (P : Step M) (front back : M → Note → Note) → IsNoting b m P front back → IsCountingStep b P → (old : Node M) (e : EdgeView) (at : ℕ) (new : Node M) → IsSteppedAt P b.ended old e at new → IsTreeNoted b m P back old e at new
tree_noted b m P front back law counts old e zero new h = root_noted b m P front back law counts old.machine new.machine old.inputs new.inputs e h.live h.made h.inputs
tree_noted {M} b m P front back law counts old e (suc at) new h =
    let R : M → Type 0 = λ r. IsTreeNoted b m P back old e (suc at) (node r new.inputs) in
    subst R (sym h.machine) (below_noted b m P front back law counts old.machine old.inputs new.inputs e at h.made)

-- a step, by what it is besides
stepped_as : {M : Type 0} (P Q : Step M) (ends : M → Bool) → ((n : M) (asked sent : ℕ) (n' : M) → P n asked sent n' → Q n asked sent n') → (t : Inputs M) (at : ℕ) (t' : Inputs M) → IsStepped P ends t at t' → IsStepped Q ends t at t'
stepped_as P Q ends law End at t' h = absurd h
stepped_as P Q ends law (More' e n p below q beside) at t' h = elim h [
  | inl x ↦ inl (record { n' = x.n'; at_is = x.at_is; live = x.live; made = law n e.demand.asked e.demand.sent x.n' x.made; new_is = x.new_is })
  | inr y ↦ elim y [
    | inl x ↦ inr (inl (record { below' = x.below'; above = x.above; within = x.within; made = stepped_as P Q ends law below (at - 1) x.below' x.made; new_is = x.new_is }))
    | inr x ↦ inr (inr (record { beside' = x.beside'; beyond = x.beyond; made = stepped_as P Q ends law beside (at - 1 - size below) x.beside' x.made; new_is = x.new_is }))
  ]
]

stepped_tree_as : {M : Type 0} (P Q : Step M) (ends : M → Bool) → ((n : M) (asked sent : ℕ) (n' : M) → P n asked sent n' → Q n asked sent n') → (old : Node M) (e : EdgeView) (at : ℕ) (new : Node M) → IsSteppedAt P ends old e at new → IsSteppedAt Q ends old e at new
stepped_tree_as P Q ends law old e zero new h = record { live = h.live; made = law old.machine e.asked e.sent new.machine h.made; inputs = h.inputs }
stepped_tree_as P Q ends law old e (suc at) new h = record { machine = h.machine; made = stepped_as P Q ends law old.inputs at new.inputs h.made }

pub picked_noted : {M T : Type 0} (b : Machine M T) (m : Meaning T) (i : ℕ) (old : Node M) (e : EdgeView) (at : ℕ) (new : Node M) → IsSteppedAt (IsPickedHere b m i) b.ended old e at new → IsTreeNoted b m (IsPickedHere b m i) (λ n k. note_then k (b.recording n i)) old e at new
picked_noted b m i old e at new h = tree_noted b m (IsPickedHere b m i) (λ n k. note_then (b.recording n i) k) (λ n k. note_then k (b.recording n i)) (pick_notes b m i) (λ n a s n' p. p.counts) old e at new h

pub picked_effect : {M T : Type 0} (b : Machine M T) (m : Meaning T) (i : ℕ) (old : Node M) (e : EdgeView) (at : ℕ) (new : Node M) → IsSteppedAt (IsPickedHere b m i) b.ended old e at new → IsPickedAt b old e at i new
picked_effect b m i old e at new h =
    let k = picked_noted b m i old e at new h in
    record {
      there = k.there;
      is = k.is;
      edges = k.edges;
      notes = k.notes;
      step = stepped_tree_as (IsPickedHere b m i) (IsRecordedHere b i) b.ended (λ n a s n' p. p.recorded) old e at new h;
      over = stepped_tree_as (IsPickedHere b m i) (StaysOver b) b.ended (λ n a s n' p. record { ended = p.counts.stays_ended; done = p.counts.stays_done }) old e at new h;
    }

pub picked_enabled : {M T : Type 0} (b : Machine M T) (m : Meaning T) (i : ℕ) (old : Node M) (e : EdgeView) (at : ℕ) (new : Node M) → IsSteppedAt (IsPickedHere b m i) b.ended old e at new → can_pick_in b i (station_of old e at) ≡ true
picked_enabled b m i old e at new h = let k = picked_noted b m i old e at new h in ap (can_pick_in b i) k.is ∙ (ap (λ l. l && b.picks k.there.machine i k.there.asked k.there.sent) k.live ∙ k.made.can)

pub row_noted : {M T : Type 0} (b : Machine M T) (m : Meaning T) (old : Node M) (e : EdgeView) (at : ℕ) (new : Node M) → IsSteppedAt (IsRowMadeHere b m) b.ended old e at new → IsTreeNoted b m (IsRowMadeHere b m) (λ n k. k) old e at new
row_noted b m old e at new h = tree_noted b m (IsRowMadeHere b m) (λ n k. k) (λ n k. k) (row_notes b m) (λ n a s n' p. p.counts) old e at new h

pub row_effect : {M T : Type 0} (b : Machine M T) (m : Meaning T) (old : Node M) (e : EdgeView) (at : ℕ) (new : Node M) → IsSteppedAt (IsRowMadeHere b m) b.ended old e at new → IsRowAt b old e at new
row_effect b m old e at new h =
    let k = row_noted b m old e at new h in
    record {
      edges = k.edges;
      notes = k.notes ∙ noted_same at (notes b old);
      step = stepped_tree_as (IsRowMadeHere b m) b.rowed b.ended (λ n a s n' p. p.row) old e at new h;
      over = stepped_tree_as (IsRowMadeHere b m) (StaysOver b) b.ended (λ n a s n' p. record { ended = p.counts.stays_ended; done = p.counts.stays_done }) old e at new h;
    }

pub row_enabled : {M T : Type 0} (b : Machine M T) (m : Meaning T) (old : Node M) (e : EdgeView) (at : ℕ) (new : Node M) → IsSteppedAt (IsRowMadeHere b m) b.ended old e at new → can_row_in b (station_of old e at) ≡ true
row_enabled b m old e at new h = let k = row_noted b m old e at new h in ap (can_row_in b) k.is ∙ (ap (λ l. l && b.rows k.there.machine k.there.asked k.there.sent) k.live ∙ k.made.can)

-- a move that no node chooses anything by
pub kept_chosen : {M T : Type 0} (b : Machine M T) (m : Meaning T) (old new : Node M) → IsKept b m old new → IsChosen b m old new
kept_chosen b m old new k = record {
  choose = λ ks. ks;
  count = λ ks. refl;
  value = λ hubs further. k.value hubs further 0;
  notes = λ ks. ap (λ l. notes_then l ks) k.notes;
  nodes = ap length k.notes;
}

pub chosen_then : {M T : Type 0} (b : Machine M T) (m : Meaning T) (x y z : Node M) → IsChosen b m x y → IsChosen b m y z → IsChosen b m x z
chosen_then b m x y z p q = record {
  choose = λ ks. p.choose (q.choose ks);
  count = λ ks. p.count (q.choose ks) ∙ q.count ks;
  value = λ hubs further. q.value hubs further ∙ p.value hubs (q.choose further);
  notes = λ ks. q.notes ks ∙ p.notes (q.choose ks);
  nodes = q.nodes ∙ p.nodes;
}
