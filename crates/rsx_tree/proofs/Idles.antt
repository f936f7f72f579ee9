-- What an idle tree with balanced counts offers.
use Rattle.std.proofs.Common.{◌≡◌, inl, inr, ℕ, ◌+◌, ◌-◌, ◌<◌, ◌≤◌, ◌^◌, Bool, true, false, ◌&&◌, nat_eq, nat_le, nat_lt, refl, ap, sym, subst, ◌∙◌, arith, Option, Some, None, option_map}
use Rattle.std.proofs.lemmas.Bool.{and_cases, both_ways, le-leb, lt-leb, cases_lt, lt-ltb}
use Rattle.rsx_types.proofs.Numbers.{not_zero}
use Rattle.rsx_sources.specs.Prelude.{Meaning, CanStep, OffersWithin, front_of}
use Rattle.rsx_sources.specs.declared.machine.Front.{Front}
use Rattle.rsx_sources.specs.declared.machine.Front.TheVariants.{Item, Completion, Failure}
use Rattle.rsx_sources.specs.declared.machine.Machine.{Ghosts as Machine}
use Rattle.rsx_tree.specs.declared.edge.Edge.{Edge}
use Rattle.rsx_tree.specs.declared.inputs.Inputs.{Inputs, End, More'}
use Rattle.rsx_tree.specs.Edges.{EdgeView, can_ask_for, is_live, can_pass}
use Rattle.rsx_tree.specs.Inputs.{can_ask_over, can_go, can_send_over, size, place}
use Rattle.rsx_tree.specs.Changed.{Hold}
use Rattle.rsx_tree.specs.Driven.{IsRestAt, IsRowIdle}
use Rattle.rsx_tree.specs.Stepped.{IsStill, over, station}
use Rattle.rsx_tree.proofs.Changes.{chosen_first, chosen_second}
use Rattle.rsx_tree.proofs.Drives.{back, back_over, rest_where}

-- ---- the moves of a part of a row

-- there is no edge with a number past the row's
pub place_none : {M : Type 0} (r : M) (i asked sent : ℕ) (t : Inputs M) (at : ℕ) → size t ≤ at → place r i asked sent t at ≡ None
place_none r i asked sent End at h = refl
place_none r i asked sent (More' e n p below q beside) at h =
    chosen_second (nat_eq at 0) _ _ (not_zero at (omega (arith, h)))
    ∙ (chosen_second (nat_le at (size below)) (place n 0 e.demand.asked e.demand.sent below (at - 1)) (place r (i + 1) asked sent beside (at - 1 - size below)) (lt-leb at (size below) (omega (arith, h)))
    ∙ place_none r (i + 1) asked sent beside (at - 1 - size below) (omega (arith, h)))

-- nor a node
pub station_none : {M : Type 0} (t : Inputs M) (at : ℕ) → size t ≤ at → station t at ≡ None
station_none End at h = refl
station_none (More' e n p below q beside) at h =
    chosen_second (nat_eq at 0) _ _ (not_zero at (omega (arith, h)))
    ∙ (chosen_second (nat_le at (size below)) (station below (at - 1)) (station beside (at - 1 - size below)) (lt-leb at (size below) (omega (arith, h)))
    ∙ station_none beside (at - 1 - size below) (omega (arith, h)))

rest_none : {M T : Type 0} (b : Machine M T) (m : Meaning T) (r : M) (i asked sent : ℕ) (t : Inputs M) (at : ℕ) → size t ≤ at → IsRestAt b m r i asked sent t at
rest_none b m r i asked sent t at w = rest_where b m _ None _ None (place_none r i asked sent t at w) (station_none t at w) (refl, refl, ((λ k l. refl), refl))

pub idle_below : {M T : Type 0} (b : Machine M T) (m : Meaning T) (r : M) (i asked sent : ℕ) (e : Edge) (n : M) (p : Hold) (below : Inputs M) (q : Hold) (beside : Inputs M) → i + (size below + size beside + 1) ≤ 2 ^ 64 →
    IsRowIdle b m r i asked sent (More' e n p below q beside) → IsRowIdle b m n 0 e.demand.asked e.demand.sent below
idle_below {M} b m r i asked sent e n p below q beside small idle at lt = elim (cases_lt at (size below)) [
  | inl w ↦
      let is : place r i asked sent (More' e n p below q beside) (at + 1) ≡ place n 0 e.demand.asked e.demand.sent below at =
      chosen_second (nat_eq (at + 1) 0) _ _ (not_zero (at + 1) (omega arith))
      ∙ (chosen_first (nat_le (at + 1) (size below)) (place n 0 e.demand.asked e.demand.sent below (at + 1 - 1)) (place r (i + 1) asked sent beside (at + 1 - 1 - size below)) (le-leb (at + 1) (size below) (omega (arith, w)))
      ∙ ap (λ j. place n 0 e.demand.asked e.demand.sent below j) (sym (back at))) in
      let there : station (More' e n p below q beside) (at + 1) ≡ station below at =
      chosen_second (nat_eq (at + 1) 0) _ _ (not_zero (at + 1) (omega arith))
      ∙ (chosen_first (nat_le (at + 1) (size below)) (station below (at + 1 - 1)) (station beside (at + 1 - 1 - size below)) (le-leb (at + 1) (size below) (omega (arith, w))) ∙ ap (λ j. station below j) (sym (back at))) in
      rest_where b m _ (place r i asked sent (More' e n p below q beside) (at + 1)) _ (station (More' e n p below q beside) (at + 1)) (sym is) (sym there) (idle (at + 1) (omega (arith, w, small)))
  | inr w ↦ rest_none b m n 0 e.demand.asked e.demand.sent below at w
]

pub idle_beside : {M T : Type 0} (b : Machine M T) (m : Meaning T) (r : M) (i asked sent : ℕ) (e : Edge) (n : M) (p : Hold) (below : Inputs M) (q : Hold) (beside : Inputs M) → i + (size below + size beside + 1) ≤ 2 ^ 64 →
    IsRowIdle b m r i asked sent (More' e n p below q beside) → IsRowIdle b m r (i + 1) asked sent beside
idle_beside {M} b m r i asked sent e n p below q beside small idle at lt = elim (cases_lt at (size beside)) [
  | inl w ↦
      let is : place r i asked sent (More' e n p below q beside) (at + 1 + size below) ≡ place r (i + 1) asked sent beside at =
      chosen_second (nat_eq (at + 1 + size below) 0) _ _ (not_zero (at + 1 + size below) (omega arith))
      ∙ (chosen_second (nat_le (at + 1 + size below) (size below)) (place n 0 e.demand.asked e.demand.sent below (at + 1 + size below - 1)) (place r (i + 1) asked sent beside (at + 1 + size below - 1 - size below)) (lt-leb (at + 1 + size below) (size below) (omega arith))
      ∙ ap (λ j. place r (i + 1) asked sent beside j) (sym (back_over at (size below)))) in
      let there : station (More' e n p below q beside) (at + 1 + size below) ≡ station beside at =
      chosen_second (nat_eq (at + 1 + size below) 0) _ _ (not_zero (at + 1 + size below) (omega arith))
      ∙ (chosen_second (nat_le (at + 1 + size below) (size below)) (station below (at + 1 + size below - 1)) (station beside (at + 1 + size below - 1 - size below)) (lt-leb (at + 1 + size below) (size below) (omega arith)) ∙ ap (λ j. station beside j) (sym (back_over at (size below)))) in
      rest_where b m _ (place r i asked sent (More' e n p below q beside) (at + 1 + size below)) _ (station (More' e n p below q beside) (at + 1 + size below)) (sym is) (sym there) (idle (at + 1 + size below) (omega (arith, w, small)))
  | inr w ↦ rest_none b m r (i + 1) asked sent beside at w
]

-- ---- an idle row

-- the laws of a node that keep an idle tree from being stuck
abbrev pub Waits : {M T : Type 0} → Machine M T → Meaning T → Type 0
Waits {M} b m = (n : M) (asked sent : ℕ) → b.ended n ≡ true → b.waiting m n ≡ None → sent < asked → CanStep b.picks b.rows n asked sent

-- a node can neither pick nor make a row
abbrev pub IsNodeStill : {M T : Type 0} → Machine M T → M → ℕ → ℕ → Type 0
IsNodeStill b n asked sent = ((j : ℕ) → j < 2 ^ 64 → b.picks n j asked sent ≡ false) × (b.rows n asked sent ≡ false)

-- nor could it where its edge is live
pub live_still : {M T : Type 0} (b : Machine M T) (e : Edge) (n : M) → is_live e.state ≡ true → IsStill b (Some (over e n)) → IsNodeStill b n e.demand.asked e.demand.sent
live_still b e n live h = (λ j l. by_live (is_live e.state) (b.picks n j e.demand.asked e.demand.sent) live (h.0 j l), by_live (is_live e.state) (b.rows n e.demand.asked e.demand.sent) live h.1)
  where
    by_live : (l x : Bool) → l ≡ true → l && x ≡ false → x ≡ false
    by_live true x e f = f
    by_live false x e f = cc

pub can_pass_live : (e : EdgeView) (f : Front) → is_live e.state ≡ true → e.sent < e.asked → can_pass e f ≡ true
can_pass_live e Item v l = rw (v, lt-ltb e.sent e.asked l) refl
can_pass_live e Completion v l = v
can_pass_live e (Failure c) v l = v

-- ---- an edge over which fewer items went than its receiver wants

-- the law of a node that accepts no more demand: what it offers may go
abbrev pub IsAskedEnough : {M T : Type 0} → Machine M T → Meaning T → Type 0
IsAskedEnough {M} b m = (n : M) (asked sent : ℕ) → b.accepts n asked sent ≡ false → OffersWithin (option_map front_of (b.waiting m n)) asked sent

-- so it is of a node that shows what waits
pub asked_enough : {M T : Type 0} (b : Machine M T) (m : Meaning T) → ((n : M) → b.shown n ≡ option_map front_of (b.waiting m n)) → ((n : M) (asked sent : ℕ) → b.accepts n asked sent ≡ false → OffersWithin (b.shown n) asked sent) → IsAskedEnough b m
asked_enough b m shows enough n asked sent refuses = subst (λ f. OffersWithin f asked sent) (shows n) (enough n asked sent refuses)

goes : (takes : Front → Bool) (e : EdgeView) (o : Option Front) → ((f : Front) → takes f ≡ true) → is_live e.state ≡ true → OffersWithin o e.asked e.sent → can_go takes e o ≡ true
goes takes e None all live h = absurd h
goes takes e (Some f) all live h = ap (λ c. c && can_pass e f) (all f) ∙ passes f h
  where
    passes : (f : Front) → OffersWithin (Some f) e.asked e.sent → can_pass e f ≡ true
    passes Item l = can_pass_live e Item live l
    passes Completion l = live
    passes (Failure c) l = live

-- A live edge over which fewer items went than its receiver wants, which takes all that comes, was asked for more than went, where
-- neither an Ask nor a Send is enabled. An Ask may be refused by the sender; then that offers what may go.
pub asked_more : {M T : Type 0} (b : Machine M T) (m : Meaning T) → IsAskedEnough b m → (r : M) (i asked sent : ℕ) (e : EdgeView) (n : M) → ((f : Front) → b.takes r i f ≡ true) → is_live e.state ≡ true → can_ask_over b r i asked sent e n ≡ false → can_send_over b m r i e n ≡ false → e.sent < b.wanted r i asked sent → e.sent < e.asked
asked_more b m enough r i asked sent e n all live ask send wants = elim (and_cases (can_ask_for e want) (b.accepts n e.asked e.sent) ask) [
  | inl has ↦ elim (cases_lt e.asked want) [
    | inl less ↦ absurd (both_ways (can_ask_for e want) has (ap (λ l. l && nat_lt e.asked want) live ∙ lt-ltb e.asked want less))
    | inr most ↦ omega (arith, most, wants)
  ]
  | inr refuses ↦ absurd (both_ways (can_send_over b m r i e n) send (goes (b.takes r i) e (option_map front_of (b.waiting m n)) all live (enough n e.asked e.sent refuses)))
]
  where
    want : ℕ
    want = b.wanted r i asked sent
