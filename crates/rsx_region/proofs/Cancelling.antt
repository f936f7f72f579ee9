-- The edge of the one reader of a link: where the link was cancelled, it isn't live.
use Rattle.std.proofs.Common.{◌≡◌, ◌⊎◌, inl, inr, ℕ, ◌-◌, Bool, true, false, if◌then◌else◌, List, [], ◌∷◌, ◌++◌, refl, ap, sym, ◌∙◌, subst, arith, Option, Some, None}
use Rattle.std.specs.Option.{option_or}
use Rattle.std.proofs.lemmas.Bool.{and_parts, cases_lt}
use Rattle.rsx_sources.specs.Prelude.{Reading, reads_hub}
use Rattle.rsx_sources.specs.declared.machine.Machine.{Ghosts as Machine}
use Rattle.rsx_tree.specs.Edges.{is_live}
use Rattle.rsx_tree.specs.Handed.{reader_edge_in}
use Rattle.rsx_tree.specs.Inputs.{size}
use Rattle.rsx_tree.specs.Reads.{readings, row_readings}
use Rattle.rsx_tree.specs.declared.edge.Edge.{Edge}
use Rattle.rsx_tree.specs.declared.inputs.Inputs.{Inputs, End, More'}
use Rattle.rsx_pipe.specs.Cutting.{Place, place_at, sender_at}
use Rattle.rsx_pipe.specs.Part.{Part}
use Rattle.rsx_pipe.specs.Published.{reader_edge}
use Rattle.rsx_region.specs.Inlet.{NoneReads, OneReads}
use Rattle.rsx_region.specs.Joined.{CancelsDead}
use Rattle.rsx_region.specs.Open.{is_live_over, is_row_live}
use Rattle.rsx_region.proofs.EdgePlaces.{live_below, live_beside, live_here, place_below, place_here, row_live_under, same_some, sender_below, sender_beside, sender_here}

-- ---- lists of readings

none_parts : (h : ℕ) (xs ys : List (Option Reading)) → NoneReads h (xs ++ ys) → NoneReads h xs × NoneReads h ys
none_parts h [] ys k = (tt, k)
none_parts h (x ∷ xs) ys k = let r = none_parts h xs ys k.1 in ((k.0, r.0), r.1)

pub none_one : (h : ℕ) (rs : List (Option Reading)) → NoneReads h rs → OneReads h rs
none_one h [] k = tt
none_one h (r ∷ rs) k = inr (k.0, none_one h rs k.1)

-- one of the first list reads it, or none does, and then one of the second, or none
one_parts : (h : ℕ) (xs ys : List (Option Reading)) → OneReads h (xs ++ ys) → (OneReads h xs × NoneReads h ys) ⊎ (NoneReads h xs × OneReads h ys)
one_parts h [] ys k = inr (tt, k)
one_parts h (x ∷ xs) ys k = elim k [
  | inl here ↦ let r = none_parts h xs ys here.1 in inl (inl (here.0, r.0), r.1)
  | inr there ↦ elim (one_parts h xs ys there.1) [ inl r ↦ inl (inr (there.0, r.0), r.1) | inr r ↦ inr ((there.0, r.0), r.1) ]
]

-- ---- a row

-- a row of which no node reads the hub has no such edge, and none of its nodes is one that does
row_none : {M T : Type 0} (b : Machine M T) (h : ℕ) (t : Inputs M) → NoneReads h (row_readings b t) → reader_edge_in b h t ≡ None
row_none b h End k = refl
row_none b h (More' e n p below q beside) k =
    let r = none_parts h (row_readings b below) (row_readings b beside) k.1 in
    not_here (reads_hub h (b.reads n)) e (option_or (reader_edge_in b h below) (reader_edge_in b h beside)) k.0 ∙ (ap (λ o. option_or o (reader_edge_in b h beside)) (row_none b h below r.0) ∙ row_none b h beside r.1)
  where
    not_here : (c : Bool) (a : Edge) (o : Option Edge) → c ≡ false → (if c then Some a else o) ≡ o
    not_here true a o k = cc
    not_here false a o k = refl

none_at : {M T : Type 0} (b : Machine M T) (h : ℕ) (t : Inputs M) (at : ℕ) (k : Place M) → NoneReads h (row_readings b t) → sender_at at t ≡ Some k → reads_hub h (b.reads k.node) ≡ false
none_at b h End at k none place = cc
none_at {M} b h (More' e n p below q beside) at k none place =
    let r = none_parts h (row_readings b below) (row_readings b beside) none.1 in
    elim (cases_lt 0 at) [
      | inr z ↦
          let node : record { node = n; below = below } ≡ k = same_some _ _ (sym (sender_here at e n p q below beside (omega (arith, z))) ∙ place) in
          let P : Place M → Type 0 = λ j. reads_hub h (b.reads j.node) ≡ false in subst P node none.0
      | inl l ↦ elim (cases_lt (size below) at) [
        | inr w ↦ none_at b h below (at - 1) k r.0 (sym (sender_below at e n p q below beside l w) ∙ place)
        | inl w ↦ none_at b h beside (at - 1 - size below) k r.1 (sym (sender_beside at e n p q below beside w) ∙ place)
      ]
    ]

-- the edge of the reader, which is live where the edge with this number is
pub record ReaderEdge {M T : Type 0} (b : Machine M T) (h : ℕ) (t : Inputs M) (at : ℕ) : Type 0 where
  pub e : Edge
  pub is : reader_edge_in b h t ≡ Some e
  pub live : is_row_live t at ≡ true → is_live e.state ≡ true

here_edge : (c : Bool) (a : Edge) (o : Option Edge) → c ≡ true → (if c then Some a else o) ≡ Some a
here_edge true a o k = refl
here_edge false a o k = cc

other_edge : (c : Bool) (a : Edge) (o : Option Edge) → c ≡ false → (if c then Some a else o) ≡ o
other_edge true a o k = cc
other_edge false a o k = refl

pub row_reader : {M T : Type 0} (b : Machine M T) (h : ℕ) (t : Inputs M) (at : ℕ) (k : Place M) → sender_at at t ≡ Some k → reads_hub h (b.reads k.node) ≡ true → OneReads h (row_readings b t) → ReaderEdge b h t at
row_reader b h End at k place reads one = cc
row_reader {M} b h (More' e n p below q beside) at k place reads one = elim (cases_lt 0 at) [
  | inr z ↦
      let here : at ≡ 0 = omega (arith, z) in
      let node : record { node = n; below = below } ≡ k = same_some _ _ (sym (sender_here at e n p q below beside here) ∙ place) in
      let P : Place M → Type 0 = λ j. reads_hub h (b.reads j.node) ≡ true in
      record {
        e = e;
        is = here_edge (reads_hub h (b.reads n)) e (option_or (reader_edge_in b h below) (reader_edge_in b h beside)) (subst P (sym node) reads);
        live = λ l. sym (live_here at e n p q below beside here) ∙ l;
      }
  | inl l ↦ elim (cases_lt (size below) at) [
    | inr w ↦
        let there = sym (sender_below at e n p q below beside l w) ∙ place in
        let rest = option_or (reader_edge_in b h below) (reader_edge_in b h beside) in
        elim one [
          | inl first ↦ let no = none_at b h below (at - 1) k (none_parts h (row_readings b below) (row_readings b beside) first.1).0 there in cc
          | inr later ↦ elim (one_parts h (row_readings b below) (row_readings b beside) later.1) [
            | inl low ↦
                let r = row_reader b h below (at - 1) k there reads low.0 in
                record {
                  e = r.e;
                  is = other_edge (reads_hub h (b.reads n)) e rest later.0 ∙ ap (λ o. option_or o (reader_edge_in b h beside)) r.is;
                  live = λ x. r.live (and_parts (is_live e.state) _ (sym (live_below at e n p q below beside l w) ∙ x)).1;
                }
            | inr side ↦ let no = none_at b h below (at - 1) k side.0 there in cc
          ]
        ]
    | inl w ↦
        let there = sym (sender_beside at e n p q below beside w) ∙ place in
        let rest = option_or (reader_edge_in b h below) (reader_edge_in b h beside) in
        elim one [
          | inl first ↦ let no = none_at b h beside (at - 1 - size below) k (none_parts h (row_readings b below) (row_readings b beside) first.1).1 there in cc
          | inr later ↦ elim (one_parts h (row_readings b below) (row_readings b beside) later.1) [
            | inl low ↦ let no = none_at b h beside (at - 1 - size below) k low.1 there in cc
            | inr side ↦
                let r = row_reader b h beside (at - 1 - size below) k there reads side.1 in
                record {
                  e = r.e;
                  is = other_edge (reads_hub h (b.reads n)) e rest later.0 ∙ (ap (λ o. option_or o (reader_edge_in b h beside)) (row_none b h below side.0) ∙ r.is);
                  live = λ x. r.live (sym (live_beside at e n p q below beside w) ∙ x);
                }
          ]
        ]
  ]
]

-- ---- a part

edge_of : {M T : Type 0} (b : Machine M T) (part : Part M) (at h : ℕ) (k : Place M) → place_at at part.tree ≡ Some k → reads_hub h (b.reads k.node) ≡ true → OneReads h (readings b part.tree) → (e : Edge) × (reader_edge b h part ≡ Some e) × (is_live_over part at ≡ true → is_live e.state ≡ true)
edge_of {M} b part at h k place reads one = elim (cases_lt 0 at) [
  | inr z ↦
      let node : record { node = part.tree.machine; below = part.tree.inputs } ≡ k = same_some _ _ (sym (place_here at part.tree (omega (arith, z))) ∙ place) in
      let P : Place M → Type 0 = λ j. reads_hub h (b.reads j.node) ≡ true in
      (part.root, here_edge (reads_hub h (b.reads part.tree.machine)) part.root (reader_edge_in b h part.tree.inputs) (subst P (sym node) reads), λ l. (and_parts (is_live part.root.state) _ l).0)
  | inl l ↦
      let there = sym (place_below at part.tree l) ∙ place in
      elim one [
        | inl first ↦ let no = none_at b h part.tree.inputs (at - 1) k first.1 there in cc
        | inr later ↦
            let r = row_reader b h part.tree.inputs (at - 1) k there reads later.1 in
            (r.e, other_edge (reads_hub h (b.reads part.tree.machine)) part.root (reader_edge_in b h part.tree.inputs) later.0 ∙ r.is, λ x. r.live (row_live_under part at l x))
      ]
]

pub cancels_dead : {M T : Type 0} (b : Machine M T) → CancelsDead b
cancels_dead {M} {T} b upper at k place inlet taken there reads st hub many =
    let own : reads_hub inlet.hub (b.reads place.node) ≡ true = subst (λ h. reads_hub h (b.reads place.node) ≡ true) (sym hub) reads in
    let r = edge_of b upper at inlet.hub place there own st.one in
    let dead = st.cancelled r.0 r.1 many in
    by_test (is_live_over upper at) refl r.0 r.2 dead
  where
    by_test : (c : Bool) → is_live_over upper at ≡ c → (e : Edge) → (is_live_over upper at ≡ true → is_live e.state ≡ true) → is_live e.state ≡ false → is_live_over upper at ≡ false
    by_test false is e live dead = is
    by_test true is e live dead = let l = live is in cc
