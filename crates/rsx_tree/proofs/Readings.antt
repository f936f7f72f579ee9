-- A move changes how far no node got in its hub.
use Rattle.std.proofs.Common.{◌≡◌, inl, inr, ℕ, zero, suc, ◌+◌, ◌-◌, Bool, true, false, ◌&&◌, List, ◌∷◌, ◌++◌, refl, ap, sym, ◌∙◌, subst, Option}
use Rattle.rsx_types.specs.Meaning.{Meaning}
use Rattle.rsx_sources.specs.declared.machine.Machine.{Ghosts as Machine}
use Rattle.rsx_tree.specs.declared.edge.Edge.{Edge}
use Rattle.rsx_tree.specs.declared.edge.EdgeState.{EdgeState}
use Rattle.rsx_tree.specs.declared.edge.EdgeState.TheVariants.{Live, Ended, Closed}
use Rattle.rsx_tree.specs.declared.inputs.Inputs.{Inputs, End, More'}
use Rattle.rsx_tree.specs.declared.node.Node.{Node}
use Rattle.rsx_tree.specs.Changed.{Change, IsChanged, IsAskedOver, IsSentOver}
use Rattle.rsx_tree.specs.Driven.{IsMade}
use Rattle.rsx_tree.specs.Edges.{EdgeView, is_live, closed_state}
use Rattle.rsx_tree.specs.Inputs.{size, is_own, closed_row, closed_row_if}
use Rattle.rsx_tree.specs.Reads.{IsReadAt, IsRowReadAt, row_readings}
use Rattle.rsx_tree.specs.Stepped.{Step, IsStepped, IsSteppedAt, IsPickedHere, IsRowMadeHere}

-- ---- closed edges

closed_dead : (s : EdgeState) → is_live (closed_state s) ≡ false
closed_dead Live = refl
closed_dead Ended = refl
closed_dead Closed = refl

pub closed_reads : {M T : Type 0} (b : Machine M T) (counts : List (Option ℕ)) (t : Inputs M) → IsRowReadAt b counts (closed_row t)
closed_reads b counts End = tt
closed_reads b counts (More' e n p below q beside) = (inl (closed_dead e.state), closed_reads b counts beside)

closed_readings : {M T : Type 0} (b : Machine M T) (t : Inputs M) → row_readings b (closed_row t) ≡ row_readings b t
closed_readings b End = refl
closed_readings b (More' e n p below q beside) = rw (closed_readings b below, closed_readings b beside) refl

pub shut_readings : {M T : Type 0} (b : Machine M T) (c : Bool) (t : Inputs M) → row_readings b (closed_row_if c t) ≡ row_readings b t
shut_readings b false t = refl
shut_readings b true t = closed_readings b t

pub closed_if_reads : {M T : Type 0} (b : Machine M T) (counts : List (Option ℕ)) (c : Bool) (t : Inputs M) → IsRowReadAt b counts t → IsRowReadAt b counts (closed_row_if c t)
closed_if_reads b counts true t h = closed_reads b counts t
closed_if_reads b counts false t h = h

-- ---- a row

-- the nodes of a row got as far as before, and each reads what it read
abbrev pub RowReadsOn : {M T : Type 0} → Machine M T → Inputs M → Inputs M → Type 0
RowReadsOn b t t' = ((counts : List (Option ℕ)) → IsRowReadAt b counts t → IsRowReadAt b counts t') × (row_readings b t' ≡ row_readings b t)

-- and so did the receiver of the row
abbrev pub ReadsOn : {M T : Type 0} → Machine M T → M → M → Inputs M → Inputs M → Type 0
ReadsOn b r r' t t' = (b.reads r' ≡ b.reads r) × ((counts : List (Option ℕ)) → IsRowReadAt b counts t → IsRowReadAt b counts t') × (row_readings b t' ≡ row_readings b t)

-- a move over an edge leaves how far the nodes at its ends got, and an edge that isn't live stays so
abbrev pub IsReadChange : {M T : Type 0} → Machine M T → Change M → Type 0
IsReadChange {M} b P = (r : M) (i asked sent : ℕ) (e : Edge) (n r' : M) (e' : Edge) (n' : M) → P r i asked sent e n r' e' n' → (b.reads r' ≡ b.reads r) × (b.reads n' ≡ b.reads n) × (is_live e.state ≡ false → is_live e'.state ≡ false)

pub changed_reads : {M T : Type 0} (b : Machine M T) (P : Change M) → IsReadChange b P → (ends : M → Bool) (r : M) (i asked sent : ℕ) (t : Inputs M) (at : ℕ) (r' : M) (t' : Inputs M) → IsChanged P ends r i asked sent t at r' t' → ReadsOn b r r' t t'
changed_reads b P reads ends r i asked sent End at r' t' h = absurd h
changed_reads {M} b P reads ends r i asked sent (More' e n p below q beside) at r' t' h = elim h [
  | inl x ↦
      let k = reads r i asked sent e n r' x.e' x.n' x.made in (
        k.0,
        λ counts g.
            let R : Inputs M → Type 0 = λ t. IsRowReadAt b counts t in
            subst R (sym x.new_is) (elim g.0 [ inl dead ↦ inl (k.2 dead) | inr live ↦ inr (subst (IsReadAt counts) (sym k.1) live.0, live.1) ], g.1),
        ap (row_readings b) x.new_is ∙ ap (λ o. o ∷ (row_readings b below ++ row_readings b beside)) k.1,
      )
  | inr y ↦ elim y [
    | inl x ↦
        let k = changed_reads b P reads ends n 0 e.demand.asked e.demand.sent below (at - 1) x.n' x.mid x.made in
        let c = ends x.n' && is_own below (at - 1) in (
          ap b.reads x.receiver,
          λ counts g.
              let R : Inputs M → Type 0 = λ t. IsRowReadAt b counts t in
              subst R (sym x.new_is) (
                elim g.0 [
                  | inl dead ↦ inl dead
                  | inr live ↦ inr (subst (IsReadAt counts) (sym k.0) live.0, closed_if_reads b counts c x.mid (k.1 counts live.1))
                ],
                g.1,
              ),
          ap (row_readings b) x.new_is
              ∙ (ap (λ o. o ∷ (row_readings b (closed_row_if c x.mid) ++ row_readings b beside)) k.0
              ∙ ap (λ l. b.reads n ∷ (l ++ row_readings b beside)) (shut_readings b c x.mid ∙ k.2)),
        )
    | inr x ↦
        let k = changed_reads b P reads ends r (i + 1) asked sent beside (at - 1 - size below) r' x.beside' x.made in (
          k.0,
          λ counts g. let R : Inputs M → Type 0 = λ t. IsRowReadAt b counts t in subst R (sym x.new_is) (g.0, k.1 counts g.1),
          ap (row_readings b) x.new_is ∙ ap (λ l. b.reads n ∷ (row_readings b below ++ l)) k.2,
        )
  ]
]

-- so does a step of a node
abbrev pub IsReadStep : {M T : Type 0} → Machine M T → Step M → Type 0
IsReadStep {M} b P = (n : M) (asked sent : ℕ) (n' : M) → P n asked sent n' → b.reads n' ≡ b.reads n

pub stepped_reads : {M T : Type 0} (b : Machine M T) (P : Step M) → IsReadStep b P → (ends : M → Bool) (t : Inputs M) (at : ℕ) (t' : Inputs M) → IsStepped P ends t at t' → RowReadsOn b t t'
stepped_reads b P reads ends End at t' h = absurd h
stepped_reads {M} b P reads ends (More' e n p below q beside) at t' h = elim h [
  | inl x ↦
      let c = ends x.n' && true in
      let k = reads n e.demand.asked e.demand.sent x.n' x.made in (
        λ counts g.
            let R : Inputs M → Type 0 = λ t. IsRowReadAt b counts t in
            subst R (sym x.new_is) (elim g.0 [ inl dead ↦ inl dead | inr live ↦ inr (subst (IsReadAt counts) (sym k) live.0, closed_if_reads b counts c below live.1) ], g.1),
        ap (row_readings b) x.new_is ∙ (ap (λ l. b.reads x.n' ∷ (l ++ row_readings b beside)) (shut_readings b c below) ∙ ap (λ o. o ∷ (row_readings b below ++ row_readings b beside)) k),
      )
  | inr y ↦ elim y [
    | inl x ↦
        let k = stepped_reads b P reads ends below (at - 1) x.below' x.made in (
          λ counts g.
              let R : Inputs M → Type 0 = λ t. IsRowReadAt b counts t in
              subst R (sym x.new_is) (elim g.0 [ inl dead ↦ inl dead | inr live ↦ inr (live.0, k.0 counts live.1) ], g.1),
          ap (row_readings b) x.new_is ∙ ap (λ l. b.reads n ∷ (l ++ row_readings b beside)) k.1,
        )
    | inr x ↦
        let k = stepped_reads b P reads ends beside (at - 1 - size below) x.beside' x.made in (
          λ counts g. let R : Inputs M → Type 0 = λ t. IsRowReadAt b counts t in subst R (sym x.new_is) (g.0, k.0 counts g.1),
          ap (row_readings b) x.new_is ∙ ap (λ l. b.reads n ∷ (row_readings b below ++ l)) k.1,
        )
  ]
]

pub made_reads : {M T : Type 0} (b : Machine M T) (m : Meaning T) (steps : Bool) (r : M) (i asked sent : ℕ) (t : Inputs M) (at : ℕ) (ends : Bool) (r' : M) (t' : Inputs M) → IsReadChange b (IsAskedOver b) → IsReadChange b (IsSentOver b m) → ((j : ℕ) → IsReadStep b (IsPickedHere b m j)) → IsReadStep b (IsRowMadeHere b m) →
    IsMade b m steps r i asked sent t at ends r' t' → ReadsOn b r r' t t'
made_reads b m steps r i asked sent t at ends r' t' asks sends picks rows h = elim h [
  | inl x ↦ changed_reads b (IsAskedOver b) asks (λ n. false) r i asked sent t at r' t' x.made
  | inr y ↦ elim y [
    | inl x ↦ changed_reads b (IsSentOver b m) sends b.ended r i asked sent t at r' t' (x.made asked sent)
    | inr z ↦
        let row : RowReadsOn b t t' = elim z.1.made [
          | inl k ↦ stepped_reads b (IsPickedHere b m k.0) (picks k.0) b.ended t at t' k.1
          | inr k ↦ stepped_reads b (IsRowMadeHere b m) rows b.ended t at t' k
        ] in
        (ap b.reads z.1.receiver, row.0, row.1)
  ]
]

-- ---- a tree

pub tree_reads : {M T : Type 0} (b : Machine M T) (r r' : M) (t t' : Inputs M) → ReadsOn b r r' t t' →
    ((counts : List (Option ℕ)) → IsReadAt counts (b.reads r) × IsRowReadAt b counts t → IsReadAt counts (b.reads r') × IsRowReadAt b counts t') × (b.reads r' ∷ row_readings b t' ≡ b.reads r ∷ row_readings b t)
tree_reads b r r' t t' k = (λ counts h. (subst (IsReadAt counts) (sym k.0) h.0, k.1 counts h.1), rw (k.0, k.2) refl)

pub tree_stepped_reads : {M T : Type 0} (b : Machine M T) (P : Step M) → IsReadStep b P → (ends : M → Bool) (old : Node M) (e : EdgeView) (at : ℕ) (new : Node M) → IsSteppedAt P ends old e at new → ReadsOn b old.machine new.machine old.inputs new.inputs
tree_stepped_reads {M} b P reads ends old e zero new h =
    let c = ends new.machine && true in (
      reads old.machine e.asked e.sent new.machine h.made,
      λ counts g. let R : Inputs M → Type 0 = λ t. IsRowReadAt b counts t in subst R (sym h.inputs) (closed_if_reads b counts c old.inputs g),
      ap (row_readings b) h.inputs ∙ shut_readings b c old.inputs,
    )
tree_stepped_reads b P reads ends old e (suc at) new h = let row = stepped_reads b P reads ends old.inputs at new.inputs h.made in (ap b.reads h.machine, row.0, row.1)
