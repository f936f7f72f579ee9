-- The first enabled move of a row.
use Rattle.std.proofs.Common.{◌^◌, ◌≡◌, ℕ, zero, suc, ◌+◌, ◌-◌, ◌<◌, min, Bool, true, false, nat_eq, nat_le, refl, ap, sym, ◌∙◌, subst, arith, Option, Some, None}
use Rattle.std.specs.Prelude.{IfSome, IfNone}
use Rattle.std.proofs.lemmas.Bool.{le-leb, lt-leb, leb-false}
use Rattle.rsx_types.proofs.Numbers.{not_zero}
use Rattle.rsx_types.specs.Meaning.{Meaning}
use Rattle.rsx_sources.specs.declared.machine.Machine.{Ghosts as Machine}
use Rattle.rsx_tree.specs.declared.edge.Edge.{Edge}
use Rattle.rsx_tree.specs.declared.inputs.Inputs.{Inputs}
use Rattle.rsx_tree.specs.declared.inputs.Inputs.TheViews.{More}
use Rattle.rsx_tree.specs.declared.look.NodeMove.{NodeMove}
use Rattle.rsx_tree.specs.declared.look.NodeMove.TheVariants.{Ask, Send, Pick, Row}
use Rattle.rsx_tree.specs.Driven.{IsRestAt, IsRestOver, IsRowIdle}
use Rattle.rsx_tree.specs.Stepped.{station, IsStill, can_pick_in, can_row_in}
use Rattle.rsx_tree.specs.Inputs.{size, place, can_ask_in, can_send_in}
use Rattle.rsx_tree.specs.Look.{IsEnabledOver, IsEnabledIn, IsEnabledAt}
use Rattle.rsx_tree.specs.Tree.{can_ask, can_send}
use Rattle.rsx_tree.specs.declared.node.Node.{Node}
use Rattle.rsx_tree.proofs.Changes.{Rest, chosen_first, chosen_second}
use Rattle.rsx_tree.proofs.Drives.{back, back_over, idle_whole, row_tree, rest_where, send_anywhere}

pub at_below : {M : Type 0} (r : M) (i asked sent : ℕ) (e : Edge) (n : M) (below beside : Rest M) (at : ℕ) → at < size below.value → place r i asked sent (More e n below beside) (at + 1) ≡ place n 0 e.demand.asked e.demand.sent below.value at
at_below r i asked sent e n below beside at w =
    chosen_second (nat_eq (at + 1) 0) _ _ (not_zero (at + 1) (omega arith))
    ∙ (chosen_first (nat_le (at + 1) (size below.value)) (place n 0 e.demand.asked e.demand.sent below.value (at + 1 - 1)) (place r (i + 1) asked sent beside.value (at + 1 - 1 - size below.value)) (le-leb (at + 1) (size below.value) (omega (arith, w)))
    ∙ ap (λ j. place n 0 e.demand.asked e.demand.sent below.value j) (sym (back at)))

pub at_beside : {M : Type 0} (r : M) (i asked sent : ℕ) (e : Edge) (n : M) (below beside : Rest M) (at : ℕ) → place r i asked sent (More e n below beside) (at + 1 + size below.value) ≡ place r (i + 1) asked sent beside.value at
at_beside r i asked sent e n below beside at =
    chosen_second (nat_eq (at + 1 + size below.value) 0) _ _ (not_zero (at + 1 + size below.value) (omega arith))
    ∙ (chosen_second (nat_le (at + 1 + size below.value) (size below.value)) (place n 0 e.demand.asked e.demand.sent below.value (at + 1 + size below.value - 1)) (place r (i + 1) asked sent beside.value (at + 1 + size below.value - 1 - size below.value)) (lt-leb (at + 1 + size below.value) (size below.value) (omega arith))
    ∙ ap (λ j. place r (i + 1) asked sent beside.value j) (sym (back_over at (size below.value))))

pub node_below : {M : Type 0} (e : Edge) (n : M) (below beside : Rest M) (at : ℕ) → at < size below.value → station (More e n below beside) (at + 1) ≡ station below.value at
node_below e n below beside at w =
    chosen_second (nat_eq (at + 1) 0) _ _ (not_zero (at + 1) (omega arith))
    ∙ (chosen_first (nat_le (at + 1) (size below.value)) (station below.value (at + 1 - 1)) (station beside.value (at + 1 - 1 - size below.value)) (le-leb (at + 1) (size below.value) (omega (arith, w)))
    ∙ ap (λ j. station below.value j) (sym (back at)))

pub node_beside : {M : Type 0} (e : Edge) (n : M) (below beside : Rest M) (at : ℕ) → station (More e n below beside) (at + 1 + size below.value) ≡ station beside.value at
node_beside e n below beside at =
    chosen_second (nat_eq (at + 1 + size below.value) 0) _ _ (not_zero (at + 1 + size below.value) (omega arith))
    ∙ (chosen_second (nat_le (at + 1 + size below.value) (size below.value)) (station below.value (at + 1 + size below.value - 1)) (station beside.value (at + 1 + size below.value - 1 - size below.value)) (lt-leb (at + 1 + size below.value) (size below.value) (omega arith))
    ∙ ap (λ j. station beside.value j) (sym (back_over at (size below.value))))

-- ---- a move that is enabled

some_here : {M T : Type 0} (b : Machine M T) (m : Meaning T) (r : M) (i asked sent first : ℕ) (e : Edge) (n : M) (below beside : Rest M) (step : NodeMove) → first < 2 ^ 32 → IsEnabledOver b m r i asked sent e n first step → IsEnabledIn b m r i asked sent (More e n below beside) first step
some_here b m r i asked sent first e n below beside (Ask k) l h = let c = h.0 in (0, omega arith, omega (arith, c), omega (arith, c, l), h.1)
some_here b m r i asked sent first e n below beside (Send k) l h = let c = h.0 in (0, omega arith, omega (arith, c), omega (arith, c, l), h.1)
some_here b m r i asked sent first e n below beside (Pick k input) l h = let c = h.0 in (0, omega arith, omega (arith, c), omega (arith, c, l), h.1, h.2)
some_here b m r i asked sent first e n below beside (Row k) l h = let c = h.0 in (0, omega arith, omega (arith, c), omega (arith, c, l), h.1)

pub first_here : {M T : Type 0} (b : Machine M T) (m : Meaning T) (r : M) (i asked sent first : ℕ) (t : Inputs M) (e : Edge) (n : M) (below beside : Rest M) (step : NodeMove) → t ≡ More e n below beside → first < 2 ^ 32 → IsEnabledOver b m r i asked sent e n first step → IsEnabledIn b m r i asked sent t first step
first_here b m r i asked sent first t e n below beside step is l h = row_tree (λ x. IsEnabledIn b m r i asked sent x first step) t e n below beside is (some_here b m r i asked sent first e n below beside step l h)

some_below : {M T : Type 0} (b : Machine M T) (m : Meaning T) (r : M) (i asked sent first : ℕ) (e : Edge) (n : M) (below beside : Rest M) (step : NodeMove) → IsEnabledIn b m n 0 e.demand.asked e.demand.sent below.value (first + 1) step → IsEnabledIn b m r i asked sent (More e n below beside) first step
some_below b m r i asked sent first e n below beside (Ask k) q =
    let w = q.1 in
    let c = q.2 in
    (q.0 + 1, omega (arith, w), omega (arith, c), q.3, ap (can_ask_in b) (at_below r i asked sent e n below beside q.0 w) ∙ q.4)
some_below b m r i asked sent first e n below beside (Send k) q =
    let w = q.1 in
    let c = q.2 in
    (q.0 + 1, omega (arith, w), omega (arith, c), q.3, ap (can_send_in b m) (at_below r i asked sent e n below beside q.0 w) ∙ q.4)
some_below b m r i asked sent first e n below beside (Pick k input) q =
    let w = q.1 in
    let c = q.2 in
    (q.0 + 1, omega (arith, w), omega (arith, c), q.3, q.4, ap (can_pick_in b input) (node_below e n below beside q.0 w) ∙ q.5)
some_below b m r i asked sent first e n below beside (Row k) q =
    let w = q.1 in
    let c = q.2 in
    (q.0 + 1, omega (arith, w), omega (arith, c), q.3, ap (can_row_in b) (node_below e n below beside q.0 w) ∙ q.4)

pub first_below : {M T : Type 0} (b : Machine M T) (m : Meaning T) (r : M) (i asked sent first : ℕ) (t : Inputs M) (e : Edge) (n : M) (below beside : Rest M) (was : Inputs M) (step : NodeMove) → t ≡ More e n below beside → was ≡ below.value →
    IsEnabledIn b m n 0 e.demand.asked e.demand.sent was (first + 1) step → IsEnabledIn b m r i asked sent t first step
first_below {M} b m r i asked sent first t e n below beside was step is at h =
    let W : Inputs M → Type 0 = λ x. IsEnabledIn b m n 0 e.demand.asked e.demand.sent x (first + 1) step in
    row_tree (λ x. IsEnabledIn b m r i asked sent x first step) t e n below beside is (some_below b m r i asked sent first e n below beside step (subst W at h))

-- the number of nodes below, where there are fewer than were counted up to
pub counted : (k inside most : ℕ) → inside ≡ min k most → (inside ≡ most → ⊥) → inside ≡ k
counted k inside most c e = omega (arith, c, e)

some_beside : {M T : Type 0} (b : Machine M T) (m : Meaning T) (r : M) (i asked sent first : ℕ) (e : Edge) (n : M) (below beside : Rest M) (step : NodeMove) →
    IsEnabledIn b m r (i + 1) asked sent beside.value (first + 1 + size below.value) step → IsEnabledIn b m r i asked sent (More e n below beside) first step
some_beside b m r i asked sent first e n below beside (Ask k) q =
    let w = q.1 in
    let c = q.2 in
    (q.0 + 1 + size below.value, omega (arith, w), omega (arith, c), q.3, ap (can_ask_in b) (at_beside r i asked sent e n below beside q.0) ∙ q.4)
some_beside b m r i asked sent first e n below beside (Send k) q =
    let w = q.1 in
    let c = q.2 in
    (q.0 + 1 + size below.value, omega (arith, w), omega (arith, c), q.3, ap (can_send_in b m) (at_beside r i asked sent e n below beside q.0) ∙ q.4)
some_beside b m r i asked sent first e n below beside (Pick k input) q =
    let w = q.1 in
    let c = q.2 in
    (q.0 + 1 + size below.value, omega (arith, w), omega (arith, c), q.3, q.4, ap (can_pick_in b input) (node_beside e n below beside q.0) ∙ q.5)
some_beside b m r i asked sent first e n below beside (Row k) q =
    let w = q.1 in
    let c = q.2 in
    (q.0 + 1 + size below.value, omega (arith, w), omega (arith, c), q.3, ap (can_row_in b) (node_beside e n below beside q.0) ∙ q.4)

pub first_beside : {M T : Type 0} (b : Machine M T) (m : Meaning T) (r : M) (i asked sent first inside : ℕ) (t : Inputs M) (e : Edge) (n : M) (below beside : Rest M) (was : Inputs M) (o : Option NodeMove) → t ≡ More e n below beside → was ≡ beside.value → inside ≡ size below.value →
    IfSome o (λ step. IsEnabledIn b m r (i + 1) asked sent was (first + 1 + inside) step) → IfSome o (λ step. IsEnabledIn b m r i asked sent t first step)
first_beside b m r i asked sent first inside t e n below beside was None is at count h = h
first_beside {M} b m r i asked sent first inside t e n below beside was (Some step) is at count h =
    let W : Inputs M → Type 0 = λ x. IsEnabledIn b m r (i + 1) asked sent x (first + 1 + inside) step in
    let C : ℕ → Type 0 = λ j. IsEnabledIn b m r (i + 1) asked sent beside.value (first + 1 + j) step in
    row_tree (λ x. IsEnabledIn b m r i asked sent x first step) t e n below beside is (some_beside b m r i asked sent first e n below beside step (subst C count (subst W at h)))

abbrev pub NoneUpTo : {M T : Type 0} → Machine M T → Meaning T → M → ℕ → ℕ → ℕ → Inputs M → ℕ → Type 0
NoneUpTo b m r i asked sent t first = (k : ℕ) → first + k < 2 ^ 32 → IsRestAt b m r i asked sent t k

none_whole : {M T : Type 0} (b : Machine M T) (m : Meaning T) (r : M) (i asked sent first : ℕ) (e : Edge) (n : M) (below beside : Rest M) → IsRestOver b m r i asked sent e n →
    NoneUpTo b m n 0 e.demand.asked e.demand.sent below.value (first + 1) → NoneUpTo b m r (i + 1) asked sent beside.value (first + 1 + size below.value) → NoneUpTo b m r i asked sent (More e n below beside) first
none_whole b m r i asked sent first e n below beside rest h q zero lt = (rest.ask, rest.send, rest.still)
none_whole {M} b m r i asked sent first e n below beside rest h q (suc k) lt = deeper (nat_le (suc k) (size below.value)) refl
  where
    deeper : (c : Bool) → nat_le (suc k) (size below.value) ≡ c → IsRestAt b m r i asked sent (More e n below beside) (suc k)
    deeper true c = rest_where b m _ (place n 0 e.demand.asked e.demand.sent below.value (suc k - 1)) _ (station below.value (suc k - 1))
        (chosen_second (nat_eq (suc k) 0) _ _ (not_zero (suc k) (omega arith)) ∙ chosen_first (nat_le (suc k) (size below.value)) (place n 0 e.demand.asked e.demand.sent below.value (suc k - 1)) (place r (i + 1) asked sent beside.value (suc k - 1 - size below.value)) c)
        (chosen_second (nat_eq (suc k) 0) _ _ (not_zero (suc k) (omega arith)) ∙ chosen_first (nat_le (suc k) (size below.value)) (station below.value (suc k - 1)) (station beside.value (suc k - 1 - size below.value)) c)
        (h (suc k - 1) (omega (arith, lt)))
    deeper false c =
        let far : size below.value < suc k = leb-false (suc k) (size below.value) c in
        rest_where b m _ (place r (i + 1) asked sent beside.value (suc k - 1 - size below.value)) _ (station beside.value (suc k - 1 - size below.value))
        (chosen_second (nat_eq (suc k) 0) _ _ (not_zero (suc k) (omega arith)) ∙ chosen_second (nat_le (suc k) (size below.value)) (place n 0 e.demand.asked e.demand.sent below.value (suc k - 1)) (place r (i + 1) asked sent beside.value (suc k - 1 - size below.value)) c)
        (chosen_second (nat_eq (suc k) 0) _ _ (not_zero (suc k) (omega arith)) ∙ chosen_second (nat_le (suc k) (size below.value)) (station below.value (suc k - 1)) (station beside.value (suc k - 1 - size below.value)) c)
        (q (suc k - 1 - size below.value) (omega (arith, lt, far)))

pub none_row : {M T : Type 0} (b : Machine M T) (m : Meaning T) (r : M) (i asked sent first : ℕ) (t : Inputs M) (e : Edge) (n : M) (below beside : Rest M) (was : Inputs M) → t ≡ More e n below beside → was ≡ below.value → IsRestOver b m r i asked sent e n →
    NoneUpTo b m n 0 e.demand.asked e.demand.sent was (first + 1) → NoneUpTo b m r (i + 1) asked sent beside.value (first + 1 + size below.value) → NoneUpTo b m r i asked sent t first
none_row {M} b m r i asked sent first t e n below beside was is at rest h q =
    let W : Inputs M → Type 0 = λ x. NoneUpTo b m n 0 e.demand.asked e.demand.sent x (first + 1) in
    row_tree (λ x. NoneUpTo b m r i asked sent x first) t e n below beside is (none_whole b m r i asked sent first e n below beside rest (subst W at h) q)

pub none_beside : {M T : Type 0} (b : Machine M T) (m : Meaning T) (r : M) (i asked sent first inside : ℕ) (t : Inputs M) (e : Edge) (n : M) (below beside : Rest M) (was was' : Inputs M) (o : Option NodeMove) → t ≡ More e n below beside → was ≡ below.value → was' ≡ beside.value → inside ≡ size below.value →
    IsRestOver b m r i asked sent e n → NoneUpTo b m n 0 e.demand.asked e.demand.sent was (first + 1) → IfNone o (NoneUpTo b m r (i + 1) asked sent was' (first + 1 + inside)) → IfNone o (NoneUpTo b m r i asked sent t first)
none_beside b m r i asked sent first inside t e n below beside was was' (Some step) is at at' count rest h q = q
none_beside {M} b m r i asked sent first inside t e n below beside was was' None is at at' count rest h q =
    let W : Inputs M → Type 0 = λ x. NoneUpTo b m r (i + 1) asked sent x (first + 1 + inside) in
    let C : ℕ → Type 0 = λ j. NoneUpTo b m r (i + 1) asked sent beside.value (first + 1 + j) in
    none_row b m r i asked sent first t e n below beside was is at rest h (subst C count (subst W at' q))

pub all_counted : (s inside at k : ℕ) {z : ℕ} → z ≡ s → inside ≡ min z (4294967295 - at) → inside ≡ 4294967295 - at → at + 1 + s + k < 2 ^ 32 → ⊥
all_counted s inside at k is e all lt = omega (arith, is, e, all, lt)

-- no number is left for what is below and beside
pub none_last : {M T : Type 0} (b : Machine M T) (m : Meaning T) (r : M) (i asked sent first : ℕ) (t : Inputs M) (e : Edge) (n : M) (below beside : Rest M) → t ≡ More e n below beside → 4294967295 - first ≡ 0 → IsRestOver b m r i asked sent e n → NoneUpTo b m r i asked sent t first
none_last {M} b m r i asked sent first t e n below beside is full rest =
    none_row b m r i asked sent first t e n below beside below.value is refl rest (λ k lt. absurd (omega (arith, full, lt))) (λ k lt. absurd (omega (arith, full, lt)))

-- ---- no move at all

-- those below the first edge
pub idle_below : {M T : Type 0} (b : Machine M T) (m : Meaning T) (n : M) (asked sent : ℕ) (below : Rest M) (was : Inputs M) → was ≡ below.value → IsRowIdle b m n 0 asked sent was → IsRowIdle b m n 0 asked sent below.value
idle_below {M} b m n asked sent below was at h = let B : Inputs M → Type 0 = λ x. IsRowIdle b m n 0 asked sent x in subst B at h

pub idle_row : {M T : Type 0} (b : Machine M T) (m : Meaning T) (r : M) (i next asked sent : ℕ) (t : Inputs M) (e : Edge) (n : M) (below beside : Rest M) (was : Inputs M) → t ≡ More e n below beside → was ≡ beside.value → next ≡ i + 1 → IsRestOver b m r i asked sent e n →
    IsRowIdle b m n 0 e.demand.asked e.demand.sent below.value → IsRowIdle b m r next asked sent was → IsRowIdle b m r i asked sent t
idle_row {M} b m r i next asked sent t e n below beside was is at up rest h h' =
    let W : Inputs M → Type 0 = λ x. IsRowIdle b m r next asked sent x in
    let N : ℕ → Type 0 = λ j. IsRowIdle b m r j asked sent beside.value in
    row_tree (λ x. IsRowIdle b m r i asked sent x) t e n below beside is (idle_whole b m r i asked sent e n below beside (record { rest = rest; idle = h }) (subst N up (subst W at h')))

-- ---- a tree

pub enabled_tree : {M T : Type 0} (b : Machine M T) (m : Meaning T) (t : Node M) (asked sent first : ℕ) (o : Option NodeMove) → IfSome o (λ e. IsEnabledIn b m t.machine 0 asked sent t.inputs first e) → IfSome o (λ e. IsEnabledAt b m t asked sent first e)
enabled_tree b m t asked sent first None h = tt
enabled_tree b m t asked sent first (Some (Ask n)) h = h
enabled_tree b m t asked sent first (Some (Send n)) h = (h.0, h.1, h.2, h.3, send_anywhere b m t.machine 0 0 0 asked sent t.inputs h.0 ∙ h.4)
enabled_tree b m t asked sent first (Some (Pick n input)) h = h
enabled_tree b m t asked sent first (Some (Row n)) h = h

pub none_tree : {M T : Type 0} (b : Machine M T) (m : Meaning T) (t : Node M) (asked sent first : ℕ) (o : Option NodeMove) → IfNone o (NoneUpTo b m t.machine 0 asked sent t.inputs first) →
    IfNone o ((k : ℕ) → first + k < 2 ^ 32 → (can_ask b t k asked sent ≡ false) × (can_send b m t k ≡ false) × IsStill b (station t.inputs k))
none_tree b m t asked sent first (Some e) h = tt
none_tree b m t asked sent first None h = λ k lt. let q = h k lt in (q.0, send_anywhere b m t.machine 0 0 0 asked sent t.inputs k ∙ q.1, q.2)
