-- How a batch that was tried over an edge is put together.
use Rattle.std.proofs.Common.{◌≡◌, inl, inr, ℕ, ◌+◌, ◌≤◌, Bool, true, false, List, [], ◌∷◌, ◌++◌, length, refl, ap, sym, ◌∙◌, subst, arith}
use Rattle.std.specs.Box.{with_value}
use Rattle.rsx_sources.specs.Prelude.{Meaning}
use Rattle.rsx_sources.specs.declared.machine.Machine.{Ghosts as Machine}
use Rattle.rsx_tree.proofs.Changes.{Rest}
use Rattle.rsx_tree.specs.Changed.{Hold}
use Rattle.rsx_tree.specs.Edges.{edge_view, is_live}
use Rattle.rsx_tree.specs.declared.edge.Edge.{Edge}
use Rattle.rsx_tree.specs.declared.inputs.Inputs.{Inputs, End, More'}
use Rattle.rsx_tree.specs.declared.inputs.Inputs.TheViews.{More}
use Rattle.rsx_rooted.specs.Items.{ArePassed, ArePopped, IsIn, IsOutBy, IsRowBatch, carried, room, steps_for}
use Rattle.rsx_rooted.specs.Made.{Fits, FitsBelow, HasGoneOn, HaveGoneOn, IsTried, moves_of}
use Rattle.rsx_rooted.specs.declared.batch.Noted.{Noted}
use Rattle.rsx_rooted.proofs.OverEdges.{batch_beside, items_popped, joined}

-- two lists with a last element each are the same where the whole is
pub last_same : {A : Type 0} (xs ys : List A) (x y : A) → xs ++ x ∷ [] ≡ ys ++ y ∷ [] → (xs ≡ ys) × (x ≡ y)
last_same [] [] x y h = (refl, cc)
last_same [] (z ∷ []) x y h = cc
last_same [] (z ∷ (w ∷ ys)) x y h = cc
last_same (z ∷ []) [] x y h = cc
last_same (z ∷ (w ∷ xs)) [] x y h = cc
last_same (z ∷ xs) (w ∷ ys) x y h =
    let front : z ≡ w = cc in
    let rest : xs ++ x ∷ [] ≡ ys ++ y ∷ [] = cc in
    let both = last_same xs ys x y rest in
    let same = both.0 in
    (cc, both.1)

pub moves_last : {T : Type 0} (notes : List (Noted T)) (top : Noted T) → moves_of (notes ++ top ∷ []) ≡ moves_of notes + top.took + top.steps
moves_last [] top = omega arith
moves_last (x ∷ xs) top = let more = moves_last xs top in omega (arith, more)

not_both : (v : Bool) → v ≡ true → v ≡ false → ⊥
not_both v x y = cc

-- a source made items
pub tried_source : {M T : Type 0} (b : Machine M T) (went : M → Noted T → M → Type 0) (m : Meaning T) (i : ℕ) (n : M) (row : Inputs M) (xs : List T) (notes : List (Noted T)) (noted : Noted T) →
    row ≡ End → noted.took ≡ 0 → noted.steps ≡ steps_for noted.by_step (length xs) → notes ≡ noted ∷ [] → ((new : M) → went n noted new → ArePopped (IsOutBy b m noted.by_step) n xs new) → IsTried b went m i n row xs notes
tried_source {M} {T} b went m i n row xs notes noted none took steps all popped =
    let N : List (Noted T) → Type 0 = λ l. IsTried b went m i n row xs l in
    let R : Inputs M → Type 0 = λ t. IsTried b went m i n t xs (noted ∷ []) in
    subst N (sym all) (subst R (sym none) (record {
      fits = ([], noted, refl, refl);
      by_step = noted.by_step;
      made = λ asked sent n' row' h.
          let same = last_same [] h.0 noted h.1 h.2 in
          let W : Noted T → Type 0 = λ k. went n k n' in
          let mine : ℕ = steps_for noted.by_step (length xs) in
          let moves : mine ≡ moves_of (noted ∷ []) = omega (arith, took, steps) in
          let C : ℕ → Type 0 = λ k. IsRowBatch b m noted.by_step k i asked sent n End xs n' row' in
          let T' : Inputs M → Type 0 = λ t. IsRowBatch b m noted.by_step mine i asked sent n End xs n' t in
          subst C moves (subst T' (sym h.4.1) (items_popped b m noted.by_step xs i asked sent n n' End (popped n' (subst W (sym same.1) h.3))));
    }))

-- a batch that was tried below a live edge went through the node over it
pub tried_over : {M T : Type 0} (b : Machine M T) (went : M → Noted T → M → Type 0) (m : Meaning T) (i : ℕ) (n : M) (row : Inputs M) (e : Edge) (s : M) (below beside : Rest M) (was : Inputs M) (xs ys : List T) (notes all : List (Noted T)) (noted : Noted T) →
    row ≡ More e s below beside → was ≡ below.value → is_live e.state ≡ true → length xs ≤ room (edge_view e) → IsTried b went m 0 s was xs notes → all ≡ notes ++ noted ∷ [] → noted.took ≡ length xs → noted.steps ≡ steps_for noted.by_step (length ys) →
    ((new : M) → went n noted new → ArePassed (IsIn b m i) (IsOutBy b m noted.by_step) n xs ys new) → IsTried b went m i n row ys all
tried_over {M} {T} b went m i n row e s below beside was xs ys notes all noted is at live fits tried whole took steps passed =
    let P : Hold = record { ptr = below.ptr; alloc = below.alloc; value = tt } in
    let Q : Hold = record { ptr = beside.ptr; alloc = beside.alloc; value = tt } in
    let here : Inputs M = More' e s P was Q beside.value in
    let A : List (Noted T) → Type 0 = λ l. IsTried b went m i n row ys l in
    let R : Inputs M → Type 0 = λ t. IsTried b went m i n t ys (notes ++ noted ∷ []) in
    let B : Inputs M → Type 0 = λ k. IsTried b went m i n (More' e s P k Q beside.value) ys (notes ++ noted ∷ []) in
    let f = tried.fits in
    let whole_row : IsTried b went m i n here ys (notes ++ noted ∷ []) = record {
      fits = (notes, noted, refl, inl (live, omega (arith, took, fits), f.0, f.1, f.2, f.3));
      by_step = noted.by_step;
      made = λ asked sent n' row' h.
          let same = last_same notes h.0 noted h.1 h.2 in
          let W : Noted T → Type 0 = λ k. went n k n' in
          let up = passed n' (subst W (sym same.1) h.3) in
          elim h.4 [
            | inl g ↦
                let gone : HasGoneOn went notes s was g.2 g.3 = (g.4, g.5, same.0 ∙ g.8, g.9, g.10) in
                let edge : edge_view g.1 ≡ carried (edge_view e) (length xs) = g.7 ∙ ap (carried (edge_view e)) (ap (λ k. k.took) (sym same.1) ∙ took) in
                let last = moves_last notes noted in
                let moves : moves_of notes + length xs + steps_for noted.by_step (length ys) ≡ moves_of (notes ++ noted ∷ []) = omega (arith, last, took, steps) in
                let C : ℕ → Type 0 = λ k. IsRowBatch b m noted.by_step k i asked sent n here ys n' (More' g.1 g.2 P g.3 Q beside.value) in
                let T' : Inputs M → Type 0 = λ t. IsRowBatch b m noted.by_step (moves_of (notes ++ noted ∷ [])) i asked sent n here ys n' t in
                subst T' (sym g.6) (subst C moves (joined b m tried.by_step noted.by_step xs ys (moves_of notes) i asked sent n n' e g.1 s g.2 P was g.3 Q beside.value (tried.made e.demand.asked e.demand.sent g.2 g.3 gone) up fits edge))
            | inr g ↦ absurd (not_both (is_live e.state) live g.0)
          ];
    } in
    subst A (sym whole) (subst R (sym is) (subst B at whole_row))

-- a batch that was tried beside an edge that isn't live
pub tried_beside : {M T : Type 0} (b : Machine M T) (went : M → Noted T → M → Type 0) (m : Meaning T) (i next : ℕ) (n : M) (row : Inputs M) (e : Edge) (s : M) (below beside : Rest M) (was : Inputs M) (ys : List T) (notes : List (Noted T)) →
    row ≡ More e s below beside → was ≡ beside.value → is_live e.state ≡ false → next ≡ i + 1 → IsTried b went m next n was ys notes → IsTried b went m i n row ys notes
tried_beside {M} {T} b went m i next n row e s below beside was ys notes is at dead up tried =
    let P : Hold = record { ptr = below.ptr; alloc = below.alloc; value = tt } in
    let Q : Hold = record { ptr = beside.ptr; alloc = beside.alloc; value = tt } in
    let here : Inputs M = More' e s P below.value Q was in
    let R : Inputs M → Type 0 = λ t. IsTried b went m i n t ys notes in
    let B : Inputs M → Type 0 = λ k. IsTried b went m i n (More' e s P below.value Q k) ys notes in
    let f = tried.fits in
    let whole_row : IsTried b went m i n here ys notes = record {
      fits = (f.0, f.1, f.2, inr (dead, f.3));
      by_step = tried.by_step;
      made = λ asked sent n' row' h. elim h.4 [
        | inl g ↦ absurd (not_both (is_live e.state) g.0 dead)
        | inr g ↦
            let gone : HasGoneOn went notes n was n' g.1 = (h.0, h.1, h.2, h.3, g.3) in
            let I : ℕ → Type 0 = λ k. IsRowBatch b m tried.by_step (moves_of notes) k asked sent n was ys n' g.1 in
            let T' : Inputs M → Type 0 = λ t. IsRowBatch b m tried.by_step (moves_of notes) i asked sent n here ys n' t in
            subst T' (sym g.2) (batch_beside b m tried.by_step ys (moves_of notes) i asked sent n n' e s P below.value Q was g.1 (subst I up (tried.made asked sent n' g.1 gone)))
      ];
    } in
    subst R (sym is) (subst B at whole_row)

-- ---- the nodes go on

pub fits_live : {M T : Type 0} (notes : List (Noted T)) (took : ℕ) (row : Inputs M) (e : Edge) (s : M) (below beside : Rest M) → row ≡ More e s below beside → is_live e.state ≡ true → FitsBelow notes took row → (took ≤ room (edge_view e)) × Fits notes below.value
fits_live {M} notes took row e s below beside is live h =
    let R : Inputs M → Type 0 = λ t. FitsBelow notes took t in
    let here : FitsBelow notes took (More e s below beside) = subst R is h in
    elim here [
      | inl g ↦ (g.1, (g.2, g.3, g.4, g.5))
      | inr g ↦ absurd (not_both (is_live e.state) live g.0)
    ]

pub fits_dead : {M T : Type 0} (notes : List (Noted T)) (took : ℕ) (row : Inputs M) (e : Edge) (s : M) (below beside : Rest M) → row ≡ More e s below beside → is_live e.state ≡ false → FitsBelow notes took row → FitsBelow notes took beside.value
fits_dead {M} notes took row e s below beside is dead h =
    let R : Inputs M → Type 0 = λ t. FitsBelow notes took t in
    let here : FitsBelow notes took (More e s below beside) = subst R is h in
    elim here [
      | inl g ↦ absurd (not_both (is_live e.state) g.0 dead)
      | inr g ↦ g.1
    ]

pub fits_end : {M T : Type 0} (notes : List (Noted T)) (took : ℕ) (row : Inputs M) → row ≡ End → FitsBelow notes took row → notes ≡ []
fits_end {M} notes took row is h = let R : Inputs M → Type 0 = λ t. FitsBelow notes took t in subst R is h

pub gone_live : {M T : Type 0} (went : M → Noted T → M → Type 0) (notes : List (Noted T)) (took : ℕ) (row : Inputs M) (e e' : Edge) (s s' : M) (below beside : Rest M) (was below' : Inputs M) →
    row ≡ More e s below beside → was ≡ below.value → is_live e.state ≡ true → edge_view e' ≡ carried (edge_view e) took → HasGoneOn went notes s was s' below' → HaveGoneOn went notes took row (More e' s' (with_value below below') beside)
gone_live {M} went notes took row e e' s s' below beside was below' is at live edge h =
    let R : Inputs M → Type 0 = λ t. HaveGoneOn went notes took t (More e' s' (with_value below below') beside) in
    let B : Inputs M → Type 0 = λ k. HasGoneOn went notes s k s' below' in
    let g = subst B at h in
    let here : HaveGoneOn went notes took (More e s below beside) (More e' s' (with_value below below') beside) = inl (live, e', s', below', g.0, g.1, refl, edge, g.2, g.3, g.4) in
    subst R (sym is) here

pub gone_dead : {M T : Type 0} (went : M → Noted T → M → Type 0) (notes : List (Noted T)) (took : ℕ) (row : Inputs M) (e : Edge) (s : M) (below beside : Rest M) (was beside' : Inputs M) →
    row ≡ More e s below beside → was ≡ beside.value → is_live e.state ≡ false → HaveGoneOn went notes took was beside' → HaveGoneOn went notes took row (More e s below (with_value beside beside'))
gone_dead {M} went notes took row e s below beside was beside' is at dead h =
    let R : Inputs M → Type 0 = λ t. HaveGoneOn went notes took t (More e s below (with_value beside beside')) in
    let B : Inputs M → Type 0 = λ k. HaveGoneOn went notes took k beside' in
    let here : HaveGoneOn went notes took (More e s below beside) (More e s below (with_value beside beside')) = inr (dead, beside', refl, subst B at h) in
    subst R (sym is) here

pub gone_end : {M T : Type 0} (went : M → Noted T → M → Type 0) (notes : List (Noted T)) (took : ℕ) (row : Inputs M) → row ≡ End → notes ≡ [] → HaveGoneOn went notes took row row
gone_end {M} went notes took row is none = let R : Inputs M → Type 0 = λ t. HaveGoneOn went notes took t t in subst R (sym is) (none, refl)
