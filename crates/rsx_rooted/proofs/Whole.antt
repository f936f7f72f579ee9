-- The trees of two regions, joined again: what the whole one gave, and what its nodes recorded.
use Rattle.std.proofs.Common.{◌≡◌, inl, inr, ℕ, suc, ◌+◌, ◌-◌, ◌<◌, ◌≤◌, List, ◌∷◌, ◌++◌, length, ap, sym, ◌∙◌, subst, arith, Some, slice_get}
use Rattle.std.proofs.lemmas.Bool.{cases_lt}
use Rattle.std.proofs.lemmas.Option.{slice_get_within}
use Rattle.rsx_sources.specs.Prelude.{Meaning, notes_then, Stream, signals_then, Note, Nothing, Signal}
use Rattle.rsx_sources.specs.declared.machine.Machine.{Ghosts as Machine}
use Rattle.rsx_tree.specs.declared.inputs.Inputs.{Inputs, End, More'}
use Rattle.rsx_tree.specs.declared.node.Node.{Node}
use Rattle.rsx_tree.specs.Inputs.{size, notes_of}
use Rattle.rsx_tree.specs.Tree.{notes}
use Rattle.rsx_tree.specs.Swapped.{put_at, with_sender}
use Rattle.rsx_tree.proofs.Noted.{get_left, get_right, length_notes}
use Rattle.rsx_rooted.specs.Splice.{IsSpliced, splice, folded, lifted}
use Rattle.rsx_rooted.specs.Flow.{AreFor, Flows, HoldsOver, AreLinked, Fill}
use Rattle.rsx_rooted.proofs.Linked.{joined_value}
use Rattle.rsx_rooted.proofs.Puts.{put_here, put_below, put_beside, size_least}
use Rattle.rsx_rooted.proofs.Splices.{splice_back, lifted_length, folded_length, folded_at, splice_length, spliced, splice_left, splice_right, notes_splice, still_nothing}

-- ---- notes of a row

-- a splice behind the first element
later : {A : Type 0} (at k : ℕ) (low : List A) (u : A) (us : List A) → at ≡ suc k → splice at low (u ∷ us) ≡ u ∷ splice k low us
later at k low u us h = ap (λ j. splice j low (u ∷ us)) h

at_first : {A : Type 0} (at : ℕ) (low : List A) (u : A) (us : List A) → at ≡ 0 → splice at low (u ∷ us) ≡ low ++ us
at_first at low u us h = ap (λ j. splice j low (u ∷ us)) h

apart : (at k : ℕ) → k ≤ at → at ≡ k + (at - k)
apart at k h = omega arith

right_of : {A : Type 0} (at : ℕ) (low xs ys : List A) → length xs ≤ at → splice at low (xs ++ ys) ≡ xs ++ splice (at - length xs) low ys
right_of at low xs ys h = ap (λ j. splice j low (xs ++ ys)) (apart at (length xs) h) ∙ splice_right (at - length xs) low xs ys

pub notes_put : {M T : Type 0} (b : Machine M T) (x y : M) (xs : Inputs M) (t : Inputs M) (at : ℕ) → at < size t → notes_of b (put_at at x xs t) ≡ splice at (b.recorded x ∷ notes_of b xs) (notes_of b (put_at at y End t))
notes_put b x y xs End at h = absurd (omega (arith, h))
notes_put b x y xs (More' e n p below q beside) at h = elim (cases_lt 0 at) [
  | inr z ↦
      let here : at ≡ 0 = omega (arith, z) in
      ap (notes_of b) (put_here at x xs e n p q below beside here)
      ∙ (sym (at_first at (b.recorded x ∷ notes_of b xs) (b.recorded y) (notes_of b beside) here)
      ∙ ap (λ r. splice at (b.recorded x ∷ notes_of b xs) (notes_of b r)) (sym (put_here at y End e n p q below beside here)))
  | inl l ↦ elim (cases_lt (size below) at) [
    | inr w ↦
        let low = b.recorded x ∷ notes_of b xs in
        let down = notes_of b (put_at (at - 1) y End below) in
        let rec = notes_put b x y xs below (at - 1) (omega (arith, l, w)) in
        let long = length_notes b (put_at (at - 1) y End below) in
        let enough = size_least below (at - 1) y End (omega (arith, l, w)) in
        ap (notes_of b) (put_below at x xs e n p q below beside l w)
        ∙ (ap (λ ns. b.recorded n ∷ (ns ++ notes_of b beside)) rec
        ∙ (ap (λ ns. b.recorded n ∷ ns) (sym (splice_left (at - 1) low down (notes_of b beside) (omega (arith, long, enough))))
        ∙ (sym (later at (at - 1) low (b.recorded n) (down ++ notes_of b beside) (omega (arith, l)))
        ∙ ap (λ r. splice at low (notes_of b r)) (sym (put_below at y End e n p q below beside l w)))))
    | inl w ↦
        let low = b.recorded x ∷ notes_of b xs in
        let side = notes_of b (put_at (at - 1 - size below) y End beside) in
        let rec = notes_put b x y xs beside (at - 1 - size below) (omega (arith, w, h)) in
        let long = length_notes b below in
        ap (notes_of b) (put_beside at x xs e n p q below beside w)
        ∙ (ap (λ ns. b.recorded n ∷ (notes_of b below ++ ns)) rec
        ∙ (ap (λ j. b.recorded n ∷ (notes_of b below ++ splice (at - 1 - j) low side)) (sym long)
        ∙ (ap (λ ns. b.recorded n ∷ ns) (sym (right_of (at - 1) low (notes_of b below) side (omega (arith, long, w))))
        ∙ (sym (later at (at - 1) low (b.recorded n) (notes_of b below ++ side) (omega (arith, w)))
        ∙ ap (λ r. splice at low (notes_of b r)) (sym (put_beside at y End e n p q below beside w))))))
  ]
]

-- the note of the node that was put
note_put : {M T : Type 0} (b : Machine M T) (y : M) (t : Inputs M) (at : ℕ) → at < size t → slice_get (notes_of b (put_at at y End t)) at ≡ Some (b.recorded y)
note_put b y End at h = absurd (omega (arith, h))
note_put b y (More' e n p below q beside) at h = elim (cases_lt 0 at) [
  | inr z ↦
      let here : at ≡ 0 = omega (arith, z) in
      ap (λ r. slice_get (notes_of b r) at) (put_here at y End e n p q below beside here) ∙ ap (λ j. slice_get (b.recorded y ∷ notes_of b beside) j) here
  | inl l ↦ elim (cases_lt (size below) at) [
    | inr w ↦
        let rec = note_put b y below (at - 1) (omega (arith, l, w)) in
        ap (λ r. slice_get (notes_of b r) at) (put_below at y End e n p q below beside l w)
        ∙ (after at (at - 1) (b.recorded n) (notes_of b (put_at (at - 1) y End below) ++ notes_of b beside) (omega (arith, l))
        ∙ in_left (at - 1) (notes_of b (put_at (at - 1) y End below)) (notes_of b beside) (b.recorded y) rec)
    | inl w ↦
        let rec = note_put b y beside (at - 1 - size below) (omega (arith, w, h)) in
        let long = length_notes b below in
        ap (λ r. slice_get (notes_of b r) at) (put_beside at y End e n p q below beside w)
        ∙ (after at (at - 1) (b.recorded n) (notes_of b below ++ notes_of b (put_at (at - 1 - size below) y End beside)) (omega (arith, w))
        ∙ in_right (at - 1) (notes_of b below) (notes_of b (put_at (at - 1 - size below) y End beside)) (b.recorded y) (omega (arith, long, w)) (ap (λ j. slice_get (notes_of b (put_at (at - 1 - size below) y End beside)) (at - 1 - j)) long ∙ rec))
  ]
]
  where
    after : {A : Type 0} (at k : ℕ) (x : A) (xs : List A) → at ≡ suc k → slice_get (x ∷ xs) at ≡ slice_get xs k
    after at k x xs h = ap (λ j. slice_get (x ∷ xs) j) h

    in_left : {A : Type 0} (i : ℕ) (xs ys : List A) (a : A) → slice_get xs i ≡ Some a → slice_get (xs ++ ys) i ≡ Some a
    in_left i xs ys a h = get_left i xs ys (slice_get_within xs i a h) ∙ h

    in_right : {A : Type 0} (i : ℕ) (xs ys : List A) (a : A) → length xs ≤ i → slice_get ys (i - length xs) ≡ Some a → slice_get (xs ++ ys) i ≡ Some a
    in_right i xs ys a l h = ap (λ j. slice_get (xs ++ ys) j) (apart i (length xs) l) ∙ (get_right (i - length xs) xs ys ∙ h)

-- ---- notes of a tree

tree_notes : {M T : Type 0} (b : Machine M T) (x y : M) (xs : Inputs M) (t : Node M) (at : ℕ) → at < size t.inputs → notes b (with_sender at x xs t) ≡ splice (0 + 1 + at) (b.recorded x ∷ notes_of b xs) (notes b (with_sender at y End t))
tree_notes b x y xs t at h =
    ap (λ ns. b.recorded t.machine ∷ ns) (notes_put b x y xs t.inputs at h)
    ∙ sym (later (0 + 1 + at) at (b.recorded x ∷ notes_of b xs) (b.recorded t.machine) (notes_of b (put_at at y End t.inputs)) (one_plus at))
  where
    one_plus : (k : ℕ) → 0 + 1 + k ≡ suc k
    one_plus k = omega arith

tree_note : {M T : Type 0} (b : Machine M T) (y : M) (t : Node M) (at : ℕ) → at < size t.inputs → slice_get (notes b (with_sender at y End t)) (0 + 1 + at) ≡ Some (b.recorded y)
tree_note b y t at h = ap (λ j. slice_get (notes b (with_sender at y End t)) j) (one_plus at) ∙ note_put b y t.inputs at h
  where
    one_plus : (k : ℕ) → 0 + 1 + k ≡ suc k
    one_plus k = omega arith

-- ---- two regions with a link

pub joined : {M T : Type 0} (b : Machine M T) (m : Meaning T) (Fits FitsUpper FitsLower : List (Stream T) → Type 0) (k at : ℕ) (upper upper' lower lower' : Node M) (leaf leaf' x x' : M) (queued held out went : List (Signal T)) →
    AreLinked b m FitsUpper FitsLower k at upper upper' lower lower' leaf leaf' queued held out went →
    HoldsOver b m x queued lower → HoldsOver b m x' held lower' →
    ((hubs : List (Stream T)) → Fits hubs → (v : Stream T) → Fill b m FitsUpper FitsLower k hubs (signals_then (queued ++ out) v) (with_sender at x lower.inputs upper) (with_sender at x' lower'.inputs upper') lower') →
    Flows b m Fits (with_sender at x lower.inputs upper) (with_sender at x' lower'.inputs upper') went
joined {M} {T} b m Fits FitsUpper FitsLower k at upper upper' lower lower' leaf leaf' x x' queued held out went l h h' fill =
    let c = 0 + 1 + at in
    let U = notes b (with_sender at leaf End upper) in
    let U' = notes b (with_sender at leaf' End upper') in
    let many = size lower'.inputs + 1 in
    let low : (f : List Note) → List Note = λ f. lifted c many f in
    let up : (f : List Note) → List Note = λ f. folded c many Nothing f in
    -- the notes of the whole trees
    let old_is : notes b (with_sender at x lower.inputs upper) ≡ splice c (notes b lower) U = tree_notes b x leaf lower.inputs upper at l.there ∙ ap (λ r. splice c (r ∷ notes_of b lower.inputs) U) h.recorded in
    let new_is : notes b (with_sender at x' lower'.inputs upper') ≡ splice c (notes b lower') U' = tree_notes b x' leaf' lower'.inputs upper' at l.there' ∙ ap (λ r. splice c (r ∷ notes_of b lower'.inputs) U') h'.recorded in
    let at_old : slice_get U c ≡ Some Nothing = tree_note b leaf upper at l.there ∙ ap Some l.leaf_is.recorded in
    let at_new : slice_get U' c ≡ Some Nothing = tree_note b leaf' upper' at l.there' ∙ ap Some l.leaf_is'.recorded in
    let in_old : c < length U = slice_get_within U c Nothing at_old in
    let in_new : c < length U' = slice_get_within U' c Nothing at_new in
    let low_old : length (notes b lower) ≡ size lower.inputs + 1 = suc_is (length (notes_of b lower.inputs)) (size lower.inputs) (length_notes b lower.inputs) in
    let low_new : length (notes b lower') ≡ many = suc_is (length (notes_of b lower'.inputs)) (size lower'.inputs) (length_notes b lower'.inputs) in
    let whole_old = ap length old_is in
    let whole_new = ap length new_is in
    let split_old = splice_length c (notes b lower) U in_old in
    let split_new = splice_length c (notes b lower') U' in_new in
    let upper_same = l.above.nodes in
    let lower_same = l.below.nodes in
    let room : (f : List Note) → AreFor b (with_sender at x' lower'.inputs upper') f → c + many ≤ length f = λ f len. omega (arith, len, whole_new, split_new, low_new, in_new) in
    let up_for : (f : List Note) → AreFor b (with_sender at x' lower'.inputs upper') f → AreFor b (with_sender at leaf' End upper') (up f) = λ f len. let r = folded_length c many Nothing f (room f len) in omega (arith, r, len, whole_new, split_new, low_new) in
    let low_for : (f : List Note) → AreFor b (with_sender at x' lower'.inputs upper') f → AreFor b lower' (low f) = λ f len. lifted_length c many f (room f len) ∙ sym low_new in
    let back : (f : List Note) → AreFor b (with_sender at x' lower'.inputs upper') f → splice c (low f) (up f) ≡ f = λ f len. splice_back c many Nothing f (room f len) in
    let nothing_new : (f : List Note) → AreFor b (with_sender at x' lower'.inputs upper') f → slice_get (up f) c ≡ Some Nothing = λ f len. folded_at c many Nothing f (let r = room f len in omega (arith, r)) in
    let up_count : (f : List Note) → AreFor b (with_sender at x' lower'.inputs upper') f → length (l.above.choose (up f)) ≡ length U = λ f len. l.above.count (up f) (up_for f len) ∙ (up_for f len ∙ upper_same) in
    let low_count : (f : List Note) → AreFor b (with_sender at x' lower'.inputs upper') f → length (l.below.choose (low f)) ≡ length (notes b lower) = λ f len. l.below.count (low f) (low_for f len) ∙ (low_for f len ∙ lower_same) in
    let nothing_old : (f : List Note) → AreFor b (with_sender at x' lower'.inputs upper') f → slice_get (l.above.choose (up f)) c ≡ Some Nothing =
    λ f len. still_nothing c U' U (up f) (l.above.choose (up f)) at_new at_old (nothing_new f len) (let r = up_count f len in omega (arith, r, in_old)) (l.above.notes (up f) (up_for f len)) in
    let choose : (f : List Note) → List Note = λ f. splice c (l.below.choose (low f)) (l.above.choose (up f)) in
    record {
      choose = choose;
      count = λ f len.
          let a = splice_length c (l.below.choose (low f)) (l.above.choose (up f)) (let r = up_count f len in omega (arith, r, in_old)) in
          let n = low_count f len in
          let u = up_count f len in
          omega (arith, a, n, u, len, whole_new, split_new, upper_same, lower_same);
      nodes = omega (arith, whole_old, whole_new, split_old, split_new, upper_same, lower_same);
      notes = λ f len.
          ap (λ ns. notes_then ns f) new_is
          ∙ (ap (λ g. notes_then (splice c (notes b lower') U') g) (sym (back f len))
          ∙ (notes_splice c (notes b lower') U' (low f) (up f) (sym (low_for f len)) (sym (up_for f len))
          ∙ (ap (λ ns. splice c ns (notes_then U' (up f))) (l.below.notes (low f) (low_for f len))
          ∙ (ap (λ ns. splice c (notes_then (notes b lower) (l.below.choose (low f))) ns) (l.above.notes (up f) (up_for f len))
          ∙ (sym (notes_splice c (notes b lower) U (l.below.choose (low f)) (l.above.choose (up f)) (sym (low_count f len)) (sym (up_count f len)))
          ∙ ap (λ ns. notes_then ns (choose f)) (sym old_is))))));
      value = λ hubs f fits len.
          let above = up f in
          let below = low f in
          let S : List Note → Type 0 = λ g. IsSpliced c many g above below in
          joined_value b m FitsUpper FitsLower k at upper upper' lower lower' leaf leaf' x x' queued held out went l h h' (choose f) f above below
          (spliced c (size lower.inputs + 1) (l.below.choose below) (l.above.choose above) (low_count f len ∙ low_old) (let r = up_count f len in omega (arith, r, in_old)))
          (nothing_old f len)
          (subst S (back f len) (spliced c many below above (lifted_length c many f (room f len)) (let r = up_for f len in omega (arith, r, in_new))))
          (nothing_new f len) (up_for f len) (low_for f len) hubs (λ v. fill hubs fits v);
    }
  where
    suc_is : (k n : ℕ) → k ≡ n → suc k ≡ n + 1
    suc_is k n h = omega arith
