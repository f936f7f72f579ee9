-- In an idle tree of which more is asked than it sent, some node waits for the hub that it reads.
use Rattle.std.proofs.Common.{◌≡◌, inl, inr, ℕ, zero, suc, ◌+◌, ◌<◌, ◌≤◌, ◌^◌, Bool, true, false, ◌&&◌, List, ◌∷◌, refl, ap, sym, ◌∙◌, subst, arith, Option, Some, None, option_map, slice_get}
use Rattle.std.specs.Prelude.{IfNone}
use Rattle.std.proofs.lemmas.Option.{same_Some}
use Rattle.std.proofs.lemmas.Bool.{both_ways, lt-ltb}
use Rattle.rsx_types.proofs.Options.{none_from_no_some}
use Rattle.rsx_sources.specs.Prelude.{Meaning, Signal, AreWithin, CanStep, front_of}
use Rattle.rsx_sources.specs.Counts.{IsHungry}
use Rattle.rsx_sources.specs.Reading.{hub_of}
use Rattle.rsx_sources.specs.declared.machine.Front.{Front}
use Rattle.rsx_sources.specs.declared.machine.Machine.{Ghosts as Machine}
use Rattle.rsx_tree.specs.declared.edge.Edge.{Edge}
use Rattle.rsx_tree.specs.declared.inputs.Inputs.{Inputs, End, More'}
use Rattle.rsx_tree.specs.declared.node.Node.{Node}
use Rattle.rsx_tree.specs.Edges.{can_pass, edge_view, is_live}
use Rattle.rsx_tree.specs.Inputs.{can_go, can_send_over, size}
use Rattle.rsx_tree.specs.Balance.{sent_over, IsRowBalanced, IsRowWithin}
use Rattle.rsx_tree.specs.Driven.{IsRowIdle}
use Rattle.rsx_tree.specs.Stepped.{over}
use Rattle.rsx_tree.proofs.Drives.{send_anywhere}
use Rattle.rsx_tree.proofs.Idles.{IsAskedEnough, IsNodeStill, Waits as EndingWaits, asked_more, can_pass_live, idle_below, idle_beside, live_still}
use Rattle.rsx_graph_moves.specs.Idle.{LacksAll}
use Rattle.rsx_graph_moves.specs.Waiting.{Waits, WaitsIn, lacks}

-- ---- one node

-- no pick and no row can be made, so no step can
no_step : {M T : Type 0} (b : Machine M T) (n : M) (asked sent : ℕ) → IsNodeStill b n asked sent → CanStep b.picks b.rows n asked sent → ⊥
no_step b n asked sent still can = elim can [
  | inl k ↦ both_ways (b.picks n k.0 asked sent) (still.0 k.0 k.1) k.2
  | inr k ↦ both_ways (b.rows n asked sent) still.1 k
]

within_row : {M : Type 0} (t : Inputs M) → IsRowWithin t → AreWithin (sent_over t)
within_row End w = tt
within_row (More' e n p below q beside) w = (w.0, within_row beside w.2)

-- the receiver takes what its input offers, so that offers nothing
silent : {M T : Type 0} (b : Machine M T) (m : Meaning T) (r : M) (i : ℕ) (e : Edge) (n : M) (s : Signal T) → ((f : Front) → b.takes r i f ≡ true) → is_live e.state ≡ true → e.demand.sent < e.demand.asked → b.waiting m n ≡ Some s → can_send_over b m r i (edge_view e) n ≡ false → ⊥
silent b m r i e n s takes live less waits idle =
    both_ways (can_send_over b m r i (edge_view e) n) idle (ap (can_go (b.takes r i) (edge_view e)) (ap (option_map front_of) waits) ∙ (ap (λ c. c && can_pass (edge_view e) (front_of s)) (takes (front_of s)) ∙ can_pass_live (edge_view e) (front_of s) live less))

-- what is shown is the signal that waits
abbrev pub Shows : {M T : Type 0} → Machine M T → Meaning T → Type 0
Shows {M} b m = (n : M) → b.shown n ≡ option_map front_of (b.waiting m n)

-- a node that offers nothing, though more is asked of it than it sent, goes on
abbrev pub Hungers : {M T : Type 0} → Machine M T → Type 0
Hungers {M} {T} b = (m : Meaning T) (n : M) (taken : List ℕ) (asked sent : ℕ) → b.ended n ≡ false → b.counted n taken sent → b.waiting m n ≡ None → sent < asked → AreWithin taken → IsHungry b.takes b.picks b.rows b.done b.wanted b.reads n taken asked sent

lacking : {M T : Type 0} (b : Machine M T) (m : Meaning T) → Shows b m → (e : Edge) (n : M) → is_live e.state ≡ true → e.demand.sent < e.demand.asked → b.waiting m n ≡ None → lacks b (over e n) ≡ true
lacking b m shows e n live less nothing = rw (live, lt-ltb e.demand.sent e.demand.asked less, shows n ∙ ap (option_map front_of) nothing) refl

-- ---- a row

-- a node of the row waits for its hub
abbrev SomeWaits : {M T : Type 0} → Machine M T → Inputs M → Type 0
SomeWaits b t = (at : ℕ) × (hub : ℕ) × (at < size t) × WaitsIn b t at hub

-- the receiver of a row, whose first edge is its input `i`, wants more at an input of the row, and takes whatever comes there
abbrev WantsMore : {M T : Type 0} → Machine M T → M → ℕ → ℕ → ℕ → Inputs M → Type 0
WantsMore b r i asked sent t =
    (j c : ℕ) × (slice_get (sent_over t) j ≡ Some c) × (b.done r (i + j) ≡ false) × ((f : Front) → b.takes r (i + j) f ≡ true) × (c < b.wanted r (i + j) asked sent)

row_waits : {M T : Type 0} (b : Machine M T) (m : Meaning T) → Shows b m → EndingWaits b m → IsAskedEnough b m → Hungers b → (r : M) (i asked sent : ℕ) (t : Inputs M) → i + size t ≤ 2 ^ 64 → IsRowIdle b m r i asked sent t → IsRowBalanced b r i t → IsRowWithin t → WantsMore b r i asked sent t → SomeWaits b t
row_waits b m shows ends enough hungers r i asked sent End small idle balanced within want = let at = want.2 in cc
row_waits {M} {T} b m shows ends enough hungers r i asked sent (More' e n p below q beside) small idle balanced within want =
    by_place (λ under w. row_waits b m shows ends enough hungers n 0 e.demand.asked e.demand.sent below (omega (arith, small)) (idle_below b m r i asked sent e n p below q beside small idle) under within.1 w) (λ w. row_waits b m shows ends enough hungers r (i + 1) asked sent beside (omega (arith, small)) (idle_beside b m r i asked sent e n p below q beside small idle) balanced.1 within.2 w) want.0 want.1 want.2 want.3 want.4 want.5
  where
    -- what is below the first edge, and what is beside it
    Under : Type 0
    Under = IsRowBalanced b n 0 below → WantsMore b n 0 e.demand.asked e.demand.sent below → SomeWaits b below

    Beside : Type 0
    Beside = WantsMore b r (i + 1) asked sent beside → SomeWaits b beside

    -- the node at the first edge goes on, and wants more at an input of its own, or reads a hub
    deeper : Under → lacks b (over e n) ≡ true → IsNodeStill b n e.demand.asked e.demand.sent → (b.ended n ≡ false) → b.counted n (sent_over below) e.demand.sent → IsRowBalanced b n 0 below → b.waiting m n ≡ None → e.demand.sent < e.demand.asked → SomeWaits b (More' e n p below q beside)
    deeper rec none still going counted under nothing more = elim (hungers m n (sent_over below) e.demand.asked e.demand.sent going counted nothing more (within_row below within.1)) [
      | inl k ↦ absurd (both_ways (b.picks n k.0 e.demand.asked e.demand.sent) (still.0 k.0 k.1) k.2)
      | inr x ↦ elim x [
        | inl k ↦ absurd (both_ways (b.rows n e.demand.asked e.demand.sent) still.1 k)
        | inr y ↦ elim y [
          | inl k ↦
              let j = k.i in
              let plus : j ≡ 0 + j = omega arith in
              let D : ℕ → Type 0 = λ l. b.done n l ≡ false in
              let F : ℕ → Type 0 = λ l. (f : Front) → b.takes n l f ≡ true in
              let W : ℕ → Type 0 = λ l. k.c < b.wanted n l e.demand.asked e.demand.sent in
              let found = rec under (j, k.c, k.at, subst D plus k.open_still, subst F plus k.takes_any, subst W plus k.wants) in
              let l = found.2 in
              (found.0 + 1, found.1, omega (arith, l), inr (inl (found.0, refl, none, found.3)))
          | inr k ↦ (0, hub_of k.0, omega arith, inl (refl, none, ap (option_map hub_of) k.1))
        ]
      ]
    ]

    first : Under → b.done r i ≡ false → ((f : Front) → b.takes r i f ≡ true) → e.demand.sent < b.wanted r i asked sent → SomeWaits b (More' e n p below q beside)
    first rec d f w = elim balanced.0 [
      | inl dead ↦ absurd (both_ways (b.done r i) d dead)
      | inr o ↦
          let live : is_live e.state ≡ true = ap is_live o.0 in
          let here = idle 0 (omega (arith, small)) in
          let more : e.demand.sent < e.demand.asked = asked_more b m enough r i asked sent (edge_view e) n f live here.0 here.1 w in
          let nothing : b.waiting m n ≡ None = none_from_no_some (b.waiting m n) (λ s x. silent b m r i e n s f live more x here.1) in
          let still = live_still b e n live here.2 in
          elim o.1 [
            | inl over_is ↦ absurd (no_step b n e.demand.asked e.demand.sent still (ends n e.demand.asked e.demand.sent over_is nothing more))
            | inr k ↦ deeper rec (lacking b m shows e n live more nothing) still k.0 k.1 k.2 nothing more
          ]
    ]

    by_place : Under → Beside → (j c : ℕ) → slice_get (e.demand.sent ∷ sent_over beside) j ≡ Some c → b.done r (i + j) ≡ false → ((f : Front) → b.takes r (i + j) f ≡ true) → c < b.wanted r (i + j) asked sent → SomeWaits b (More' e n p below q beside)
    by_place rec side zero c at d f w =
        let none : i + 0 ≡ i = omega arith in
        let D : ℕ → Type 0 = λ k. b.done r k ≡ false in
        let F : ℕ → Type 0 = λ k. (f : Front) → b.takes r k f ≡ true in
        let W : ℕ → Type 0 = λ k. e.demand.sent < b.wanted r k asked sent in
        let C : ℕ → Type 0 = λ k. k < b.wanted r (i + 0) asked sent in
        first rec (subst D none d) (subst F none f) (subst W none (subst C (sym (same_Some e.demand.sent c at)) w))
    by_place rec side (suc j) c at d f w =
        let next : i + suc j ≡ i + 1 + j = omega arith in
        let D : ℕ → Type 0 = λ k. b.done r k ≡ false in
        let F : ℕ → Type 0 = λ k. (f : Front) → b.takes r k f ≡ true in
        let W : ℕ → Type 0 = λ k. c < b.wanted r k asked sent in
        let found = side (j, c, at, subst D next d, subst F next f, subst W next w) in
        let l = found.2 in
        (found.0 + 1 + size below, found.1, omega (arith, l), inr (inr (found.0, refl, found.3)))

-- ---- a tree

-- a node of the tree waits for its hub
abbrev pub OneWaits : {M T : Type 0} → Machine M T → Edge → Node M → Type 0
OneWaits b root t = (at : ℕ) × (hub : ℕ) × (at < 2 ^ 32) × Waits b root t at hub

pub tree_waits : {M T : Type 0} (b : Machine M T) (m : Meaning T) → Shows b m → EndingWaits b m → IsAskedEnough b m → Hungers b → (root : Edge) (t : Node M) → LacksAll b m root t → OneWaits b root t
tree_waits {M} {T} b m shows ends enough hungers root t h = elim h.balanced [
  | inl over_is ↦ absurd (no_step b t.machine root.demand.asked root.demand.sent still (ends t.machine root.demand.asked root.demand.sent over_is h.nothing h.more))
  | inr k ↦ deeper k.0 k.1 k.2
]
  where
    live : is_live root.state ≡ true
    live = ap is_live h.live

    still : IsNodeStill b t.machine root.demand.asked root.demand.sent
    still = live_still b root t.machine live h.still

    none : lacks b (over root t.machine) ≡ true
    none = lacking b m shows root t.machine live h.more h.nothing

    row_idle : IsRowIdle b m t.machine 0 root.demand.asked root.demand.sent t.inputs
    row_idle at lt = let k = h.idle at (omega (arith, lt)) in (k.0, send_anywhere b m t.machine 0 root.demand.asked root.demand.sent 0 0 t.inputs at ∙ k.1, k.2)

    deeper : b.ended t.machine ≡ false → b.counted t.machine (sent_over t.inputs) root.demand.sent → IsRowBalanced b t.machine 0 t.inputs → OneWaits b root t
    deeper going counted under = elim (hungers m t.machine (sent_over t.inputs) root.demand.asked root.demand.sent going counted h.nothing h.more (within_row t.inputs h.within)) [
      | inl k ↦ absurd (both_ways (b.picks t.machine k.0 root.demand.asked root.demand.sent) (still.0 k.0 k.1) k.2)
      | inr x ↦ elim x [
        | inl k ↦ absurd (both_ways (b.rows t.machine root.demand.asked root.demand.sent) still.1 k)
        | inr y ↦ elim y [
          | inl k ↦
              let j = k.i in
              let few = h.few in
              let plus : j ≡ 0 + j = omega arith in
              let D : ℕ → Type 0 = λ l. b.done t.machine l ≡ false in
              let F : ℕ → Type 0 = λ l. (f : Front) → b.takes t.machine l f ≡ true in
              let W : ℕ → Type 0 = λ l. k.c < b.wanted t.machine l root.demand.asked root.demand.sent in
              let found = row_waits b m shows ends enough hungers t.machine 0 root.demand.asked root.demand.sent t.inputs (omega (arith, few)) row_idle under h.within (j, k.c, k.at, subst D plus k.open_still, subst F plus k.takes_any, subst W plus k.wants) in
              let l = found.2 in
              (suc found.0, found.1, omega (arith, l, few), (none, found.3))
          | inr k ↦ (0, hub_of k.0, omega arith, (none, ap (option_map hub_of) k.1))
        ]
      ]
    ]

-- ---- no node was found

-- where the root reads no hub and no node below it waits, no node does
pub none_left : {M T A : Type 0} (b : Machine M T) (root : Edge) (t : Node M) (o : Option A) (read : Option ℕ) → read ≡ option_map hub_of (b.reads t.machine) → read ≡ None → IfNone o ((at hub : ℕ) → 1 + at < 2 ^ 32 → WaitsIn b t.inputs at hub → ⊥) → IfNone o ((at hub : ℕ) → at < 2 ^ 32 → Waits b root t at hub → ⊥)
none_left {M} {T} b root t None read is none h = below
  where
    below : (at hub : ℕ) → at < 2 ^ 32 → Waits b root t at hub → ⊥
    below zero hub lt w = let e : Some hub ≡ None = sym w.1 ∙ (sym is ∙ none) in cc
    below (suc at) hub lt w = h at hub (omega (arith, lt)) w.1
none_left b root t (Some a) read is none h = tt

-- then the tree isn't one in which a node waits
pub none_lacks : {M T A : Type 0} (b : Machine M T) (m : Meaning T) → Shows b m → EndingWaits b m → IsAskedEnough b m → Hungers b → (root : Edge) (t : Node M) (o : Option A) → IfNone o ((at hub : ℕ) → at < 2 ^ 32 → Waits b root t at hub → ⊥) → IfNone o (LacksAll b m root t → ⊥)
none_lacks b m shows ends enough hungers root t None h = λ k. let w = tree_waits b m shows ends enough hungers root t k in h w.0 w.1 w.2 w.3
none_lacks b m shows ends enough hungers root t (Some a) h = tt
