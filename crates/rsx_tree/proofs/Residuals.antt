-- What still comes in, where nothing more is chosen.
use Rattle.std.proofs.Common.{◌≡◌, ◌⊎◌, inl, inr, ℕ, ◌+◌, true, false, List, [], ◌∷◌, ◌++◌, length, Some, None, option_map, slice_get, refl, ap, sym, ◌∙◌, subst, append_assoc, length-append}
use Rattle.std.proofs.lemmas.List.{append-nil}
use Rattle.std.proofs.lemmas.Bool.{both_ways}
use Rattle.rsx_sources.specs.Prelude.{Meaning, note_then, unchosen, Stream, Note, Nothing, Picks, Ended, Incoming, incoming_of, IsBehind, IsResidualOf}
use Rattle.rsx_sources.specs.declared.machine.Machine.{Ghosts as Machine}
use Rattle.rsx_tree.specs.declared.edge.Edge.{Edge}
use Rattle.rsx_tree.specs.declared.inputs.Inputs.{Inputs, End, More, More'}
use Rattle.rsx_tree.proofs.Changes.{Rest}
use Rattle.rsx_tree.specs.declared.node.Node.{Node}
use Rattle.rsx_tree.specs.Balance.{sent_over, IsOwnerBalanced, IsRowBalanced}
use Rattle.rsx_tree.specs.Changed.{Hold}
use Rattle.rsx_tree.specs.Edges.{is_live}
use Rattle.rsx_tree.specs.Inputs.{size, comes_in, out_of, beside_of, IsUnchosen}
use Rattle.rsx_tree.specs.Tree.{comes_out, IsUnchosen as IsTreeUnchosen}
use Rattle.rsx_tree.specs.Residual.{IsRowBehind, AgreeFrom, IsResidual, IsTreeResidual}

-- ---- the laws of a node

abbrev pub Drops : {M T : Type 0} → Machine M T → Meaning T → Type 0
Drops {M} {T} b m = (n : M) (inc other : Incoming T) (further : Note) → b.ended n ≡ true → b.comes_out m n inc further ≡ b.comes_out m n other further

abbrev pub DoneDrops : {M T : Type 0} → Machine M T → Meaning T → Type 0
DoneDrops {M} {T} b m = (n : M) (hubs before after : List (Stream T)) (v w : Stream T) (further : Note) → b.done n (length before) ≡ true → b.comes_out m n (incoming_of hubs (before ++ v ∷ after)) further ≡ b.comes_out m n (incoming_of hubs (before ++ w ∷ after)) further

abbrev pub Settles : {M T : Type 0} → Machine M T → Meaning T → Type 0
Settles {M} {T} b m = (n : M) (inc : Incoming T) → (v : Stream T) × (b.comes_out m n inc (unchosen (b.recorded n)) ≡ Some v)

-- ---- nothing more is chosen

pub nothing_more : (n : Note) → note_then n (unchosen n) ≡ n
nothing_more Nothing = refl
nothing_more (Picks cs) = ap Picks (append-nil cs)
nothing_more (Ended None) = refl
nothing_more (Ended (Some i)) = refl

-- then something comes out of each node
pub comes_some : {M T : Type 0} (b : Machine M T) (m : Meaning T) → Settles b m → (hubs : List (Stream T)) (further : List Note) (t : Inputs M) (at : ℕ) → IsUnchosen b further t at → (vs : List (Stream T)) × (comes_in b m hubs further t at ≡ Some vs)
comes_some b m settles hubs further End at u = ([], refl)
comes_some {M} {T} b m settles hubs further (More' e n p below q beside) at u =
    let under = comes_some b m settles hubs further below (at + 1) u.1 in
    let side = comes_some b m settles hubs further beside (at + 1 + size below) u.2 in
    let v = settles n (incoming_of hubs under.0) in
    (v.0 ∷ side.0, rw (u.0, under.1, v.1, side.1) refl)

pub tree_some : {M T : Type 0} (b : Machine M T) (m : Meaning T) → Settles b m → (hubs : List (Stream T)) (further : List Note) (t : Node M) (at : ℕ) → IsTreeUnchosen b further t at → (v : Stream T) × (comes_out b m hubs further t at ≡ Some v)
tree_some b m settles hubs further t at u =
    let under = comes_some b m settles hubs further t.inputs (at + 1) u.1 in
    let v = settles t.machine (incoming_of hubs under.0) in
    (v.0, rw (u.0, under.1, v.1) refl)

-- ---- values that agree

-- the same comes out where they agree
pub agreed : {M T : Type 0} (b : Machine M T) (m : Meaning T) → DoneDrops b m → (n : M) (hubs before vs ws : List (Stream T)) (k : Note) → AgreeFrom (b.done n) (length before) vs ws → b.comes_out m n (incoming_of hubs (before ++ vs)) k ≡ b.comes_out m n (incoming_of hubs (before ++ ws)) k
agreed b m drops n hubs before [] [] k h = refl
agreed b m drops n hubs before [] (w ∷ ws) k h = absurd h
agreed b m drops n hubs before (v ∷ vs) [] k h = absurd h
agreed {M} {T} b m drops n hubs before (v ∷ vs) (w ∷ ws) k h =
    let first : b.comes_out m n (incoming_of hubs (before ++ v ∷ vs)) k ≡ b.comes_out m n (incoming_of hubs (before ++ w ∷ vs)) k = elim h.0 [
      | inl d ↦ drops n hubs before vs v w k d
      | inr same ↦ ap (λ x. b.comes_out m n (incoming_of hubs (before ++ x ∷ vs)) k) (sym same)
    ] in
    let A : ℕ → Type 0 = λ i. AgreeFrom (b.done n) i vs ws in
    let longer : length (before ++ w ∷ []) ≡ length before + 1 = length-append before (w ∷ []) in
    first
    ∙ (ap (λ l. b.comes_out m n (incoming_of hubs l) k) (sym (append_assoc before (w ∷ []) vs))
    ∙ (agreed b m drops n hubs (before ++ w ∷ []) vs ws k (subst A (sym longer) h.1)
    ∙ ap (λ l. b.comes_out m n (incoming_of hubs l) k) (append_assoc before (w ∷ []) ws)))

-- what comes out of a node of a balanced tree
pub node_residual : {M T : Type 0} (b : Machine M T) (m : Meaning T) → Drops b m → DoneDrops b m → Settles b m → (n : M) (t : Inputs M) (inboxes hubs ws : List (Stream T)) (v : Stream T) (further : List Note) (at sent : ℕ) →
    IsOwnerBalanced b n (sent_over t) sent (IsRowBalanced b n 0 t) → IsBehind (b.reads n) inboxes hubs → slice_get further at ≡ Some (unchosen (b.recorded n)) → IsUnchosen b further t (at + 1) → IsResidualOf (b.comes_out m) b.recorded b.reads n inboxes ws v →
    (IsRowBalanced b n 0 t → (vs : List (Stream T)) × (comes_in b m hubs further t (at + 1) ≡ Some vs) × AgreeFrom (b.done n) 0 vs ws) → out_of b m hubs n (comes_in b m hubs further t (at + 1)) (slice_get further at) ≡ Some v
node_residual {M} {T} b m drops done settles n t inboxes hubs ws v further at sent balanced behind here under is comes = elim balanced [
  | inl over ↦
      let some = comes_some b m settles hubs further t (at + 1) under in
      ap (λ o. out_of b m hubs n o (slice_get further at)) some.1 ∙ (ap (out_of b m hubs n (Some some.0)) here ∙ (drops n (incoming_of hubs some.0) (incoming_of hubs ws) (unchosen (b.recorded n)) over ∙ value))
  | inr open_still ↦
      let some = comes open_still.2 in
      ap (λ o. out_of b m hubs n o (slice_get further at)) some.1 ∙ (ap (out_of b m hubs n (Some some.0)) here ∙ (agreed b m done n hubs [] some.0 ws (unchosen (b.recorded n)) some.2 ∙ value))
]
  where
    value : b.comes_out m n (incoming_of hubs ws) (unchosen (b.recorded n)) ≡ Some v
    value = is hubs (unchosen (b.recorded n)) behind (nothing_more (b.recorded n))

-- ---- a row

pub residual_end : {M T : Type 0} (b : Machine M T) (m : Meaning T) (inboxes : List (Stream T)) (t : Inputs M) (vs : List (Stream T)) → t ≡ End → IsResidual b m inboxes t vs vs
residual_end {M} b m inboxes t vs is = let Q : Inputs M → Type 0 = λ u. IsResidual b m inboxes u vs vs in subst Q (sym is) (record { values = []; behind = sym (append-nil vs); comes = λ r i hubs further at k l u. ([], refl, tt) })

pub residual_dead : {M T : Type 0} (b : Machine M T) (m : Meaning T) → Settles b m → (inboxes : List (Stream T)) (e : Edge) (n : M) (p : Hold) (below : Inputs M) (q : Hold) (beside : Inputs M) (old mid new : List (Stream T)) (v : Stream T) →
    is_live e.state ≡ false → mid ≡ old ++ v ∷ [] → IsResidual b m inboxes beside mid new → IsResidual b m inboxes (More' e n p below q beside) old new
residual_dead {M} {T} b m settles inboxes e n p below q beside old mid new v dead pushed rest = record {
  values = v ∷ rest.values;
  behind = rest.behind ∙ (ap (λ l. l ++ rest.values) pushed ∙ append_assoc old (v ∷ []) rest.values);
  comes = λ r i hubs further at k l u.
      let some = comes_some b m settles hubs further below (at + 1) u.1 in
      let x = settles n (incoming_of hubs some.0) in
      let side = rest.comes r (i + 1) hubs further (at + 1 + size below) k.1 l.1 u.2 in
      (x.0 ∷ side.0, rw (u.0, some.1, x.1, side.1) refl, (elim k.0 [ inl d ↦ inl d | inr o ↦ absurd (both_ways _ dead (ap is_live o.0)) ], side.2));
}

pub residual_live : {M T : Type 0} (b : Machine M T) (m : Meaning T) → Drops b m → DoneDrops b m → Settles b m → (inboxes : List (Stream T)) (e : Edge) (n : M) (p : Hold) (below : Inputs M) (q : Hold) (beside : Inputs M) (old mid new none incoming : List (Stream T)) (v : Stream T) →
    is_live e.state ≡ true → none ≡ [] → IsResidual b m inboxes below none incoming → IsResidualOf (b.comes_out m) b.recorded b.reads n inboxes incoming v → mid ≡ old ++ v ∷ [] → IsResidual b m inboxes beside mid new → IsResidual b m inboxes (More' e n p below q beside) old new
residual_live {M} {T} b m drops done settles inboxes e n p below q beside old mid new none incoming v live nothing under is pushed rest = record {
  values = v ∷ rest.values;
  behind = rest.behind ∙ (ap (λ l. l ++ rest.values) pushed ∙ append_assoc old (v ∷ []) rest.values);
  comes = λ r i hubs further at k l u.
      let side = rest.comes r (i + 1) hubs further (at + 1 + size below) k.1 l.1 u.2 in
      elim k.0 [
        | inl d ↦
            let some = comes_some b m settles hubs further below (at + 1) u.1 in
            let x = settles n (incoming_of hubs some.0) in
            (x.0 ∷ side.0, rw (u.0, some.1, x.1, side.1) refl, (inl d, side.2))
        | inr o ↦
            let reads = reads_below l.0 in
            let out = node_residual b m drops done settles n below inboxes hubs incoming v further at e.demand.sent o.1 reads.0 u.0 u.1 is (comes_below hubs further (at + 1) reads.1 u.1) in
            (v ∷ side.0, ap (λ x. beside_of x (comes_in b m hubs further beside (at + 1 + size below))) out ∙ ap (option_map (λ xs. v ∷ xs)) side.1, (inr refl, side.2))
      ];
}
  where
    reads_below : {A : Type 0} → (is_live e.state ≡ false) ⊎ A → A
    reads_below h = elim h [ inl dead ↦ absurd (both_ways _ dead live) | inr k ↦ k ]

    comes_below : (hubs : List (Stream T)) (further : List Note) (at : ℕ) → IsRowBehind b inboxes hubs below → IsUnchosen b further below at → IsRowBalanced b n 0 below → (vs : List (Stream T)) × (comes_in b m hubs further below at ≡ Some vs) × AgreeFrom (b.done n) 0 vs incoming
    comes_below hubs further at behind u balanced =
        let some = under.comes n 0 hubs further at balanced behind u in
        let A : List (Stream T) → Type 0 = λ l. AgreeFrom (b.done n) 0 some.0 l in
        (some.0, some.1, subst A (sym (under.behind ∙ ap (λ l. l ++ under.values) nothing)) some.2)

-- the same as the code holds them
pub residual_past : {M T : Type 0} (b : Machine M T) (m : Meaning T) → Settles b m → (inboxes : List (Stream T)) (t : Inputs M) (e : Edge) (n : M) (below beside : Rest M) (was : Inputs M) (old mid new : List (Stream T)) (v : Stream T) →
    t ≡ More e n below beside → was ≡ beside.value → is_live e.state ≡ false → mid ≡ old ++ v ∷ [] → IsResidual b m inboxes was mid new → IsResidual b m inboxes t old new
residual_past {M} b m settles inboxes t e n below beside was old mid new v is w dead pushed rest =
    let Q : Inputs M → Type 0 = λ u. IsResidual b m inboxes u old new in
    let W : Inputs M → Type 0 = λ u. IsResidual b m inboxes u mid new in
    subst Q (sym is) (residual_dead b m settles inboxes e n _ below.value _ beside.value old mid new v dead pushed (subst W w rest))

pub residual_over : {M T : Type 0} (b : Machine M T) (m : Meaning T) → Drops b m → DoneDrops b m → Settles b m → (inboxes : List (Stream T)) (t : Inputs M) (e : Edge) (n : M) (below beside : Rest M) (under was : Inputs M) (old mid new none incoming seen : List (Stream T)) (v : Stream T) →
    t ≡ More e n below beside → under ≡ below.value → was ≡ beside.value → is_live e.state ≡ true → none ≡ [] → IsResidual b m inboxes under none incoming → seen ≡ incoming → IsResidualOf (b.comes_out m) b.recorded b.reads n inboxes seen v → mid ≡ old ++ v ∷ [] → IsResidual b m inboxes was mid new → IsResidual b m inboxes t old new
residual_over {M} {T} b m drops done settles inboxes t e n below beside under was old mid new none incoming seen v is u w live nothing inside see value pushed rest =
    let S : List (Stream T) → Type 0 = λ l. IsResidualOf (b.comes_out m) b.recorded b.reads n inboxes l v in
    let Q : Inputs M → Type 0 = λ x. IsResidual b m inboxes x old new in
    let W : Inputs M → Type 0 = λ x. IsResidual b m inboxes x mid new in
    let U : Inputs M → Type 0 = λ x. IsResidual b m inboxes x none incoming in
    subst Q (sym is) (residual_live b m drops done settles inboxes e n _ below.value _ beside.value old mid new none incoming v live nothing (subst U u inside) (subst S see value) pushed (subst W w rest))

-- ---- a tree

pub tree_residual : {M T : Type 0} (b : Machine M T) (m : Meaning T) → Drops b m → DoneDrops b m → Settles b m → (inboxes : List (Stream T)) (t : Node M) (none incoming seen : List (Stream T)) (v : Stream T) →
    none ≡ [] → IsResidual b m inboxes t.inputs none incoming → seen ≡ incoming → IsResidualOf (b.comes_out m) b.recorded b.reads t.machine inboxes seen v → IsTreeResidual b m inboxes t v
tree_residual {M} {T} b m drops done settles inboxes t none incoming seen v nothing under see is hubs further at sent balanced behind u =
    let S : List (Stream T) → Type 0 = λ l. IsResidualOf (b.comes_out m) b.recorded b.reads t.machine inboxes l v in
    node_residual b m drops done settles t.machine t.inputs inboxes hubs incoming v further at sent balanced behind.0 u.0 u.1 (subst S see is) comes
  where
    comes : IsRowBalanced b t.machine 0 t.inputs → (vs : List (Stream T)) × (comes_in b m hubs further t.inputs (at + 1) ≡ Some vs) × AgreeFrom (b.done t.machine) 0 vs incoming
    comes row =
        let some = under.comes t.machine 0 hubs further (at + 1) row behind.1 u.1 in
        let A : List (Stream T) → Type 0 = λ l. AgreeFrom (b.done t.machine) 0 some.0 l in
        (some.0, some.1, subst A (sym (under.behind ∙ ap (λ l. l ++ under.values) nothing)) some.2)
