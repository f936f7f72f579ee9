-- What still comes in at the inputs of an idle row: nothing where its receiver waits for more.
use Rattle.std.proofs.Common.{◌≡◌, inl, inr, ℕ, zero, suc, ◌+◌, ◌<◌, ◌≤◌, ◌^◌, Bool, true, false, ◌&&◌, List, [], ◌∷◌, refl, ap, sym, ◌∙◌, subst, arith, Option, Some, None, option_map, slice_get}
use Rattle.std.proofs.lemmas.Option.{same_Some}
use Rattle.std.proofs.lemmas.Bool.{both_ways}
use Rattle.rsx_types.proofs.Options.{none_from_no_some}
use Rattle.rsx_sources.specs.Prelude.{Meaning, unchosen, Stream, ended_by, Note, Open, Signal, AreWithin, CanStep, front_of, incoming_of}
use Rattle.rsx_sources.specs.declared.machine.Front.{Front}
use Rattle.rsx_sources.specs.declared.machine.Machine.{Ghosts as Machine}
use Rattle.rsx_tree.specs.declared.edge.Edge.{Edge}
use Rattle.rsx_tree.specs.declared.inputs.Inputs.{Inputs, End, More'}
use Rattle.rsx_tree.specs.declared.node.Node.{Node}
use Rattle.rsx_tree.specs.Edges.{can_pass, edge_view, is_live}
use Rattle.rsx_tree.specs.Inputs.{IsUnchosen as IsRowUnchosen, can_go, can_send_over, comes_in, out_of, size}
use Rattle.rsx_tree.specs.Balance.{sent_over, IsBalanced, IsRowBalanced, IsRowWithin, IsWithin}
use Rattle.rsx_tree.specs.Driven.{IsIdle, IsRowIdle}
use Rattle.rsx_tree.specs.Tree.{IsUnchosen, comes_out, offers}
use Rattle.rsx_tree.proofs.Drives.{send_anywhere}
use Rattle.rsx_tree.proofs.Idles.{IsAskedEnough, IsNodeStill, Waits, asked_more, can_pass_live, idle_below, idle_beside, live_still}
use Rattle.rsx_tree.proofs.Residuals.{Settles, comes_some}
use Rattle.rsx_tree.specs.Rests.{HaveReadAll, NothingBehind, NothingComes, Rests, TreeHasReadAll, coming}
use Rattle.rsx_sources.proofs.Incomings.{hubs_in}

-- ---- an idle row

-- no pick and no row can be made, so no step can
no_step : {M T : Type 0} (b : Machine M T) (n : M) (asked sent : ℕ) → IsNodeStill b n asked sent → CanStep b.picks b.rows n asked sent → ⊥
no_step b n asked sent still can = elim can [
  | inl k ↦ both_ways (b.picks n k.0 asked sent) (still.0 k.0 k.1) k.2
  | inr k ↦ both_ways (b.rows n asked sent) still.1 k
]

within_row : {M : Type 0} (t : Inputs M) → IsRowWithin t → AreWithin (sent_over t)
within_row End w = tt
within_row (More' e n p below q beside) w = (w.0, within_row beside w.2)

-- the receiver of an idle row takes what its first input offers, so that offers nothing
first_silent : {M T : Type 0} (b : Machine M T) (m : Meaning T) (r : M) (i : ℕ) (e : Edge) (n : M) (s : Signal T) → ((f : Front) → b.takes r i f ≡ true) → is_live e.state ≡ true → e.demand.sent < e.demand.asked → b.waiting m n ≡ Some s → can_send_over b m r i (edge_view e) n ≡ false → ⊥
first_silent b m r i e n s takes live less waits idle =
    both_ways (can_send_over b m r i (edge_view e) n) idle (ap (can_go (b.takes r i) (edge_view e)) (ap (option_map front_of) waits) ∙ (ap (λ c. c && can_pass (edge_view e) (front_of s)) (takes (front_of s)) ∙ can_pass_live (edge_view e) (front_of s) live less))

-- the values that come in, as a node counts them
in_order : {T : Type 0} (hubs us : List (Stream T)) (j : ℕ) → coming ((incoming_of hubs us).first ∷ (incoming_of hubs us).others) j ≡ coming us j
in_order hubs [] zero = refl
in_order hubs [] (suc j) = refl
in_order hubs (u ∷ us) j = refl

-- nothing comes in where the receiver of a row, whose first edge is its input `i`, waits for more
abbrev pub NoneComes : {M T : Type 0} → Machine M T → M → ℕ → ℕ → ℕ → Inputs M → List (Stream T) → Type 0
NoneComes b r i asked sent t vs =
    (j c : ℕ) → slice_get (sent_over t) j ≡ Some c → b.done r (i + j) ≡ false → ((f : Front) → b.takes r (i + j) f ≡ true) → c < b.wanted r (i + j) asked sent → coming vs j ≡ ended_by Open

none_comes : {M T : Type 0} (b : Machine M T) (r : M) (asked sent : ℕ) (t : Inputs M) (hubs us : List (Stream T)) → NoneComes b r 0 asked sent t us → NothingComes b.takes b.done b.wanted r (sent_over t) asked sent ((incoming_of hubs us).first ∷ (incoming_of hubs us).others)
none_comes b r asked sent t hubs us h j c at open_still takes wants =
    let zero_plus : j ≡ 0 + j = omega arith in
    let D : ℕ → Type 0 = λ k. b.done r k ≡ false in
    let F : ℕ → Type 0 = λ k. (f : Front) → b.takes r k f ≡ true in
    let W : ℕ → Type 0 = λ k. c < b.wanted r k asked sent in
    in_order hubs us j ∙ h j c at (subst D zero_plus open_still) (subst F zero_plus takes) (subst W zero_plus wants)

-- of an idle row nothing comes in where its receiver waits for more: what is below it waits too, down to the hubs
pub row_rests : {M T : Type 0} (b : Machine M T) (m : Meaning T) → Waits b m → IsAskedEnough b m → Settles b m → Rests b m → (hubs : List (Stream T)) (further : List Note) (r : M) (i asked sent : ℕ) (t : Inputs M) (at : ℕ) → i + size t ≤ 2 ^ 64 → IsRowIdle b m r i asked sent t → IsRowBalanced b r i t → IsRowWithin t →
    HaveReadAll b m hubs t → IsRowUnchosen b further t at → (vs : List (Stream T)) × (comes_in b m hubs further t at ≡ Some vs) × NoneComes b r i asked sent t vs
row_rests b m waits enough settles rests hubs further r i asked sent End at small idle balanced within read u = ([], refl, λ j c got. cc)
row_rests {M} {T} b m waits enough settles rests hubs further r i asked sent (More' e n p below q beside) at small idle balanced within read u =
    let side = row_rests b m waits enough settles rests hubs further r (i + 1) asked sent beside (at + 1 + size below) (omega (arith, small)) (idle_beside b m r i asked sent e n p below q beside small idle) balanced.1 within.2 read.1 u.2 in
    let first = over_first (λ w rd. row_rests b m waits enough settles rests hubs further n 0 e.demand.asked e.demand.sent below (at + 1) (omega (arith, small)) (idle_below b m r i asked sent e n p below q beside small idle) w within.1 rd u.1) in
    (first.0 ∷ side.0, rw (first.1, side.1) refl, λ j. by_place side.0 first.0 first.2 side.2 j)
  where
    none : (k : ℕ) → k ≡ k + 0
    none k = omega arith

    -- what comes in over the first edge: nothing, where its receiver waits for more there
    IsFirst : Stream T → Type 0
    IsFirst v = b.done r i ≡ false → ((f : Front) → b.takes r i f ≡ true) → e.demand.sent < b.wanted r i asked sent → v ≡ ended_by Open

    out : Option (Stream T)
    out = out_of b m hubs n (comes_in b m hubs further below (at + 1)) (slice_get further at)

    -- what is below the first edge, while its sender goes on
    Under : Type 0
    Under = IsRowBalanced b n 0 below → HaveReadAll b m hubs below → (us : List (Stream T)) × (comes_in b m hubs further below (at + 1) ≡ Some us) × NoneComes b n 0 e.demand.asked e.demand.sent below us

    same : (v w : Stream T) → Some v ≡ Some w → v ≡ w
    same v w x = cc

    resting : is_live e.state ≡ true → b.waiting m n ≡ None → e.demand.sent < e.demand.asked → IsNodeStill b n e.demand.asked e.demand.sent → b.ended n ≡ false → b.counted n (sent_over below) e.demand.sent → (us : List (Stream T)) × (comes_in b m hubs further below (at + 1) ≡ Some us) × NoneComes b n 0 e.demand.asked e.demand.sent below us → out ≡ Some (ended_by Open)
    resting live nothing more still going counted below_is =
        let us = below_is.0 in
        let H : List (Stream T) → Type 0 = λ l. NothingBehind (b.reads n) l in
        let rest : b.comes_out m n (incoming_of hubs us) (unchosen (b.recorded n)) ≡ Some (ended_by Open) =
        rests n (sent_over below) e.demand.asked e.demand.sent (incoming_of hubs us) going counted nothing more (within_row below within.1) still (none_comes b n e.demand.asked e.demand.sent below hubs us below_is.2) (subst H (sym (hubs_in hubs us)) ((read.0 live).0 nothing more still)) in
        rw (u.0, below_is.1) rest

    over_first : Under → (v : Stream T) × (out ≡ Some v) × IsFirst v
    over_first deeper =
        let under = comes_some b m settles hubs further below (at + 1) u.1 in
        let v = settles n (incoming_of hubs under.0) in
        let is : out ≡ Some v.0 = rw (u.0, under.1) v.1 in (
          v.0,
          is,
          λ d f w. elim balanced.0 [
            | inl dead ↦ absurd (both_ways (b.done r i) d dead)
            | inr o ↦
                let live : is_live e.state ≡ true = ap is_live o.0 in
                let here = idle 0 (omega (arith, small)) in
                let more : e.demand.sent < e.demand.asked = asked_more b m enough r i asked sent (edge_view e) n f live here.0 here.1 w in
                let nothing : b.waiting m n ≡ None = none_from_no_some (b.waiting m n) (λ s x. first_silent b m r i e n s f live more x here.1) in
                let still = live_still b e n live here.2 in
                elim o.1 [
                  | inl over ↦ absurd (no_step b n e.demand.asked e.demand.sent still (waits n e.demand.asked e.demand.sent over nothing more))
                  | inr k ↦ same v.0 (ended_by Open) (sym is ∙ resting live nothing more still k.0 k.1 (deeper k.2 (read.0 live).1))
                ]
          ],
        )

    by_place : (vs : List (Stream T)) (v : Stream T) → IsFirst v → NoneComes b r (i + 1) asked sent beside vs → (j c : ℕ) → slice_get (e.demand.sent ∷ sent_over beside) j ≡ Some c → b.done r (i + j) ≡ false → ((f : Front) → b.takes r (i + j) f ≡ true) → c < b.wanted r (i + j) asked sent → coming (v ∷ vs) j ≡ ended_by Open
    by_place vs v f h (suc j) c got d takes wants =
        let next : i + suc j ≡ i + 1 + j = omega arith in
        let D : ℕ → Type 0 = λ k. b.done r k ≡ false in
        let F : ℕ → Type 0 = λ k. (f : Front) → b.takes r k f ≡ true in
        let W : ℕ → Type 0 = λ k. c < b.wanted r k asked sent in
        h j c got (subst D next d) (subst F next takes) (subst W next wants)
    by_place vs v f h zero c got d takes wants =
        let D : ℕ → Type 0 = λ k. b.done r k ≡ false in
        let F : ℕ → Type 0 = λ k. (f : Front) → b.takes r k f ≡ true in
        let W : ℕ → Type 0 = λ k. e.demand.sent < b.wanted r k asked sent in
        let C : ℕ → Type 0 = λ k. k < b.wanted r (i + 0) asked sent in
        f (subst D (sym (none i)) d) (subst F (sym (none i)) takes) (subst W (sym (none i)) (subst C (sym (same_Some e.demand.sent c got)) wants))

-- nothing comes out of an idle tree of which more is asked than it sent, and that offers nothing
pub tree_rests : {M T : Type 0} (b : Machine M T) (m : Meaning T) → Waits b m → IsAskedEnough b m → Settles b m → Rests b m → (hubs : List (Stream T)) (further : List Note) (t : Node M) (asked sent : ℕ) → IsIdle b m t asked sent → IsNodeStill b t.machine asked sent → IsBalanced b t sent → sent < asked → size t.inputs ≤ 2 ^ 64 → IsWithin t →
    TreeHasReadAll b m hubs t asked sent → IsUnchosen b further t 0 → offers b m t ≡ None → comes_out b m hubs further t 0 ≡ Some (ended_by Open)
tree_rests {M} {T} b m waits enough settles rests hubs further t asked sent idle still balanced more few within read u nothing = elim balanced [
  | inl over ↦ absurd (no_step b t.machine asked sent still (waits t.machine asked sent over nothing more))
  | inr k ↦ resting k.0 k.1 (row_rests b m waits enough settles rests hubs further t.machine 0 asked sent t.inputs 1 small row_idle k.2 within read.1 u.1)
]
  where
    small : 0 + size t.inputs ≤ 2 ^ 64
    small = omega (arith, few)

    row_idle : IsRowIdle b m t.machine 0 asked sent t.inputs
    row_idle at lt = let k = idle at (omega (arith, lt)) in (k.0, send_anywhere b m t.machine 0 asked sent 0 0 t.inputs at ∙ k.1, k.2)

    resting : b.ended t.machine ≡ false → b.counted t.machine (sent_over t.inputs) sent → (us : List (Stream T)) × (comes_in b m hubs further t.inputs 1 ≡ Some us) × NoneComes b t.machine 0 asked sent t.inputs us → comes_out b m hubs further t 0 ≡ Some (ended_by Open)
    resting going counted below =
        let us = below.0 in
        let H : List (Stream T) → Type 0 = λ l. NothingBehind (b.reads t.machine) l in
        let rest : b.comes_out m t.machine (incoming_of hubs us) (unchosen (b.recorded t.machine)) ≡ Some (ended_by Open) =
        rests t.machine (sent_over t.inputs) asked sent (incoming_of hubs us) going counted nothing more (within_row t.inputs within) still (none_comes b t.machine asked sent t.inputs hubs us below.2) (subst H (sym (hubs_in hubs us)) (read.0 nothing more still)) in
        rw (u.0, below.1) rest
