-- How a run of items over one edge of a tree is put together from single moves.
use Rattle.std.proofs.Common.{◌≡◌, inl, inr, ℕ, suc, ◌+◌, ◌-◌, ◌<◌, ◌≤◌, Bool, true, false, ◌&&◌, nat_lt, List, [], ◌∷◌, length, refl, ap, sym, ◌∙◌, subst, arith, rules}
use Rattle.rsx_types.specs.Meaning.{Meaning}
use Rattle.rsx_sources.specs.declared.machine.Front.TheVariants.{Item as ItemFront}
use Rattle.rsx_sources.specs.declared.machine.Machine.{Ghosts as Machine}
use Rattle.std.proofs.Math.Bridge.{le_prop}
use Rattle.rsx_demand.specs.declared.Demand.{Demand}
use Rattle.rsx_demand.specs.declared.TheConstants.{UNBOUNDED}
use Rattle.rsx_tree.specs.declared.edge.Edge.{Edge}
use Rattle.rsx_tree.specs.declared.edge.EdgeState.{EdgeState}
use Rattle.rsx_tree.specs.declared.edge.EdgeState.TheVariants.{Live, Ended, Closed}
use Rattle.rsx_tree.specs.declared.inputs.Inputs.{Inputs, More'}
use Rattle.rsx_tree.specs.Edges.{EdgeView, edge_view, can_pass, is_live}
use Rattle.rsx_tree.specs.Changed.{Hold, IsSentOver}
use Rattle.rsx_tree.specs.Driven.{IsMade, IsRowRun, IsRowStep}
use Rattle.rsx_tree.specs.Inputs.{closed_row_if}
use Rattle.rsx_rooted.specs.Items.{ArePassed, ArePopped, IsIn, IsOutBy, IsRowBatch, carried, room, room_of, steps_for, IsOut}
use Rattle.rsx_tree.proofs.Drives.{run_beside, run_below, sent_here, step_here}
use Rattle.rsx_tree.proofs.Runs.{leads_by_on}
use Rattle.rsx_tree.proofs.Popped.{unrecorded_out}
use Rattle.rsx_tree.proofs.Fetches.{sent_over}

-- moves of a row, and then more of them
run_then : {M T : Type 0} (b : Machine M T) (m : Meaning T) (steps : Bool) (n k i asked sent : ℕ) (r r1 r' : M) (t t1 t' : Inputs M) → IsRowRun b m steps n i asked sent r t r1 t1 → IsRowRun b m steps k i asked sent r1 t1 r' t' → IsRowRun b m steps (n + k) i asked sent r t r' t'
run_then b m steps n k i asked sent r r1 r' t t1 t' first second = leads_by_on (IsRowStep b m steps i asked sent) n k (r, t) (r1, t1) (r', t') first second

run_once : {M T : Type 0} (b : Machine M T) (m : Meaning T) (steps : Bool) (i asked sent at : ℕ) (r r' : M) (t t' : Inputs M) → IsMade b m steps r i asked sent t at false r' t' → IsRowRun b m steps 1 i asked sent r t r' t'
run_once b m steps i asked sent at r r' t t' made = ((r', t'), (at, made), refl)

-- that a demand is covered and bounded are facts: how they are known makes no difference
pub same_demand : (a b : Demand) → b.asked ≡ a.asked → b.sent ≡ a.sent → b ≡ a
same_demand a b x y =
    let P : ℕ → Type 0 = λ n. (s : ℕ) (c : s ≤ n) (l : n ≤ UNBOUNDED) → s ≡ a.sent → demand n s c l ≡ a in
    let Q : ℕ → Type 0 = λ s. (c : s ≤ a.asked) (l : a.asked ≤ UNBOUNDED) → demand a.asked s c l ≡ a in
    subst P (sym x) (λ s c l e. subst Q (sym e) known c l) b.sent b.covered b.bounded y
  where
    demand : (n s : ℕ) → s ≤ n → n ≤ UNBOUNDED → Demand
    demand n s c l = record { asked = n; sent = s; covered = c; bounded = l }

    known : (c : a.sent ≤ a.asked) (l : a.asked ≤ UNBOUNDED) → record { asked = a.asked; sent = a.sent; covered = c; bounded = l } ≡ a
    known c l = ap (λ x. record { asked = a.asked; sent = a.sent; covered = x; bounded = l }) (le_prop c a.covered) ∙ ap (λ x. record { asked = a.asked; sent = a.sent; covered = a.covered; bounded = x }) (le_prop l a.bounded)

pub same_edge : (a b : Edge) → edge_view b ≡ edge_view a → b ≡ a
same_edge a b e =
    ap (λ d. record { demand = d; state = b.state }) (same_demand a.demand b.demand (ap (λ v. v.asked) e) (ap (λ v. v.sent) e))
    ∙ ap (λ s. record { demand = a.demand; state = s }) (ap (λ v. v.state) e)

pub carried_none : (v : EdgeView) → carried v 0 ≡ v
carried_none v =
    let same : v.sent + 0 ≡ v.sent = omega arith in
    let f : ℕ → EdgeView = λ s. record { asked = v.asked; sent = s; state = v.state } in
    ap f same

pub carried_more : (v : EdgeView) (k : ℕ) → carried v (suc k) ≡ carried (carried v 1) k
carried_more v k =
    let same : v.sent + suc k ≡ v.sent + 1 + k = omega arith in
    let f : ℕ → EdgeView = λ s. record { asked = v.asked; sent = s; state = v.state } in
    ap f same

-- an edge over which one more item was counted as sent
abbrev pub one_more : (e : Edge) → e.demand.sent < e.demand.asked → Edge
one_more e room = record { demand = record { asked = e.demand.asked; sent = e.demand.sent + 1; covered = omega (arith, room); bounded = e.demand.bounded }; state = e.state }

-- an edge with room is live
room_of_live : (a s : ℕ) (state : EdgeState) → 0 < room_of a s (is_live state) → is_live state ≡ true
room_of_live a s Live h = refl
room_of_live a s Ended h = absurd (omega (arith, h))
room_of_live a s Closed h = absurd (omega (arith, h))

pub room_live : (v : EdgeView) → 0 < room v → is_live v.state ≡ true
room_live v h = room_of_live v.asked v.sent v.state h

pub room_is : (v : EdgeView) → is_live v.state ≡ true → room v ≡ v.asked - v.sent
room_is v h = ap (room_of v.asked v.sent) h

less_is : (a b : ℕ) → a < b → nat_lt a b ≡ true
less_is a b h = search (rules, h)

pub can_item : (e : Edge) → is_live e.state ≡ true → e.demand.sent < e.demand.asked → can_pass (edge_view e) ItemFront ≡ true
can_item e live room = ap (λ c. c && nat_lt e.demand.sent e.demand.asked) live ∙ less_is e.demand.sent e.demand.asked room

pub items_after : {M T : Type 0} (b : Machine M T) (m : Meaning T) (by : Bool) (n k i asked sent : ℕ) (r r1 r' : M) (t t1 t' : Inputs M) (xs : List T) →
    IsRowRun b m true n i asked sent r t r1 t1 → IsRowBatch b m by k i asked sent r1 t1 xs r' t' → IsRowBatch b m by (n + k) i asked sent r t xs r' t'
items_after b m by n k i asked sent r r1 r' t t1 t' [] first h = run_then b m true n k i asked sent r r1 r' t t1 t' first h
items_after b m by n k i asked sent r r1 r' t t1 t' (x ∷ xs) first h =
    let count = h.5 in
    (n + h.0, h.1, h.2, h.3, h.4, omega (arith, count), run_then b m true n h.0 i asked sent r r1 h.2 t t1 h.3 first h.6, h.7, h.8)

pub no_steps : (by : Bool) → steps_for by 0 ≡ 0
no_steps true = refl
no_steps false = refl

pub steps_more : (by : Bool) (n : ℕ) → steps_for by (suc n) ≡ steps_for by 1 + steps_for by n
steps_more true n = omega arith
steps_more false n = omega arith

-- a node lets items out by its steps alone, or by no move
pub items_popped : {M T : Type 0} (b : Machine M T) (m : Meaning T) (by : Bool) (xs : List T) (i asked sent : ℕ) (r r' : M) (t : Inputs M) → ArePopped (IsOutBy b m by) r xs r' → IsRowBatch b m by (steps_for by (length xs)) i asked sent r t xs r' t
items_popped {M} b m by [] i asked sent r r' t h =
    let C : ℕ → Type 0 = λ k. IsRowRun b m true k i asked sent r t r' t in
    let none : IsRowRun b m true 0 i asked sent r t r' t = ap (λ k. (k, t)) h in
    subst C (sym (no_steps by)) none
items_popped b m by (x ∷ xs) i asked sent r r' t h =
    let more = steps_more by (length xs) in
    (0, steps_for by (length xs), r, t, h.0, omega (arith, more), refl, h.1, items_popped b m by xs i asked (sent + 1) h.0 r' t h.2)

-- the step by which a node over a live edge, of which more is asked than it sent, puts an item out
stepped_out : {M T : Type 0} (b : Machine M T) (m : Meaning T) (by : Bool) (i asked sent : ℕ) (r : M) (e : Edge) (n n' : M) (x : T) (p : Hold) (below : Inputs M) (q : Hold) (beside : Inputs M) → is_live e.state ≡ true → e.demand.sent < e.demand.asked → IsOutBy b m by n x n' →
    (mid : M) × IsRowRun b m true (steps_for by 1) i asked sent r (More' e n p below q beside) r (More' e mid p below q beside) × IsOut b m mid x n'
stepped_out b m false i asked sent r e n n' x p below q beside live free o = (n, refl, o)
stepped_out b m true i asked sent r e n n' x p below q beside live free o =
    let s = o e.demand.asked e.demand.sent free in
    let stays : below ≡ closed_row_if (b.ended s.0 && true) below = sym (ap (λ z. closed_row_if (z && true) below) s.2) in (
      s.0,
      run_once b m true i asked sent 0 r r (More' e n p below q beside) (More' e s.0 p below q beside) (step_here b m i asked sent r e n s.0 below below (record { live = live; made = s.1; shut = stays }) p q beside),
      s.3,
    )

-- THE STEP OVER ONE EDGE: items came out of the sender by moves of it and below it, while what it sent over the edge rose by one
-- with each, and then went through the receiver, all at once; by as many moves more the same comes about item by item
pub joined : {M T : Type 0} (b : Machine M T) (m : Meaning T) (low by : Bool) (xs ys : List T) (count i asked sent : ℕ) (r r' : M) (e e' : Edge) (n n' : M) (p : Hold) (below below' : Inputs M) (q : Hold) (beside : Inputs M) →
    IsRowBatch b m low count 0 e.demand.asked e.demand.sent n below xs n' below' → ArePassed (IsIn b m i) (IsOutBy b m by) r xs ys r' → length xs ≤ room (edge_view e) → edge_view e' ≡ carried (edge_view e) (length xs) →
    IsRowBatch b m by (count + length xs + steps_for by (length ys)) i asked sent r (More' e n p below q beside) ys r' (More' e' n' p below' q beside)
joined {M} {T} b m low by [] ys count i asked sent r r' e e' n n' p below below' q beside h pass fits over =
    let all : ℕ = count + 0 + steps_for by (length ys) in
    let Y : List T → Type 0 = λ k. IsRowBatch b m by all i asked sent r (More' e n p below q beside) k r' (More' e' n' p below' q beside) in
    let R : M → Type 0 = λ k. IsRowBatch b m by all i asked sent r (More' e n p below q beside) [] k (More' e' n' p below' q beside) in
    let E : Edge → Type 0 = λ k. IsRowBatch b m by all i asked sent r (More' e n p below q beside) [] r (More' k n' p below' q beside) in
    let C : ℕ → Type 0 = λ k. IsRowBatch b m by k i asked sent r (More' e n p below q beside) [] r (More' e n' p below' q beside) in
    let no : steps_for by (length ys) ≡ 0 = ap (λ (l : List T). steps_for by (length l)) pass.0 ∙ no_steps by in
    let none : count ≡ all = omega (arith, no) in
    let still : e' ≡ e = same_edge e e' (over ∙ carried_none (edge_view e)) in
    subst Y (sym pass.0) (subst R (sym pass.1) (subst E (sym still) (subst C none (run_below b m true count i asked sent r e n n' p below below' q beside h))))
joined {M} {T} b m low by (x ∷ xs) ys count i asked sent r r' e e' n n' p below below' q beside h pass fits over =
    let c1 = h.0 in
    let c2 = h.1 in
    let s1 : ℕ = steps_for low 1 in
    let counts : c1 + s1 + c2 ≡ count = h.5 in
    let some : 0 < room (edge_view e) = omega (arith, fits) in
    let live : is_live e.state ≡ true = room_live (edge_view e) some in
    let here : room (edge_view e) ≡ e.demand.asked - e.demand.sent = room_is (edge_view e) live in
    let free : e.demand.sent < e.demand.asked = omega (arith, fits, here) in
    let e1 : Edge = one_more e free in
    let left : room (edge_view e1) ≡ e.demand.asked - (e.demand.sent + 1) = room_is (edge_view e1) live in
    let rest : length xs ≤ room (edge_view e1) = omega (arith, fits, here, left) in
    let stepped = stepped_out b m low i asked sent r e h.2 h.4 x p h.3 q beside live free h.7 in
    let sends : (a s : ℕ) → IsSentOver b m r i a s e stepped.0 pass.0 e1 h.4 = sent_over b m r i e stepped.0 pass.0 e1 h.4 x (unrecorded_out b m stepped.0 h.4 x stepped.2.0 stepped.2.1) pass.1.0 pass.1.1 (can_item e live free) refl in
    let before = More' e n p below q beside in
    let offering = More' e h.2 p h.3 q beside in
    let ready = More' e stepped.0 p h.3 q beside in
    let after = More' e1 h.4 p h.3 q beside in
    let last = More' e' n' p below' q beside in
    let up : IsRowRun b m true c1 i asked sent r before r offering = run_below b m true c1 i asked sent r e n h.2 p below h.3 q beside h.6 in
    let put : IsRowRun b m true (c1 + s1) i asked sent r before r ready = run_then b m true c1 s1 i asked sent r r r before offering ready up stepped.1 in
    let send : IsRowRun b m true 1 i asked sent r ready pass.0 after = run_once b m true i asked sent 0 r pass.0 ready after (sent_here b m true false i asked sent r pass.0 e e1 stepped.0 h.4 h.3 sends pass.1.0.goes_on p q beside) in
    let sent_up : IsRowRun b m true (c1 + s1 + 1) i asked sent r before pass.0 after = run_then b m true (c1 + s1) 1 i asked sent r r pass.0 before ready after put send in
    let mine : ℕ = steps_for by (length ys) in
    let C : ℕ → Type 0 = λ k. IsRowBatch b m by k i asked sent r before ys r' last in
    let more : edge_view e' ≡ carried (edge_view e1) (length xs) = over ∙ carried_more (edge_view e) (length xs) in
    elim pass.2 [
      | inl kept ↦
          let all : c1 + s1 + 1 + (c2 + length xs + mine) ≡ count + length (x ∷ xs) + mine = omega (arith, counts) in
          subst C all (items_after b m by (c1 + s1 + 1) (c2 + length xs + mine) i asked sent r pass.0 r' before after last ys sent_up
          (joined b m low by xs ys c2 i asked sent pass.0 r' e1 e' h.4 n' p h.3 below' q beside h.8 kept rest more))
      | inr out ↦
          let theirs : ℕ = steps_for by (length out.1) in
          let Y : List T → Type 0 = λ k. IsRowBatch b m by (count + length (x ∷ xs) + mine) i asked sent r before k r' last in
          let longer : mine ≡ steps_for by 1 + theirs = ap (λ (l : List T). steps_for by (length l)) out.3 ∙ steps_more by (length out.1) in
          let all : c1 + s1 + 1 + steps_for by 1 + (c2 + length xs + theirs) ≡ count + length (x ∷ xs) + mine = omega (arith, counts, longer) in
          subst Y (sym out.3) (
            c1 + s1 + 1,
            c2 + length xs + theirs,
            pass.0,
            after,
            out.2,
            all,
            sent_up,
            out.4,
            joined b m low by xs out.1 c2 i asked (sent + 1) out.2 r' e1 e' h.4 n' p h.3 below' q beside h.8 out.5 rest more,
          )
    ]

-- no more items come out of a node than went in
pub passed_length : {T S : Type 0} (taken out : S → T → S → Type 0) (xs ys : List T) (r r' : S) → ArePassed taken out r xs ys r' → length ys ≤ length xs
passed_length taken out [] ys r r' h =
    let none : length ys ≡ 0 = ap length h.0 in
    omega (arith, none)
passed_length taken out (x ∷ xs) ys r r' h = elim h.2 [
  | inl kept ↦ let less = passed_length taken out xs ys h.0 r' kept in omega (arith, less)
  | inr put ↦
      let less = passed_length taken out xs put.1 put.2 r' put.5 in
      let same : length ys ≡ length (put.0 ∷ put.1) = ap length put.3 in
      omega (arith, less, same)
]

-- a batch over the inputs beside the first
pub batch_beside : {M T : Type 0} (b : Machine M T) (m : Meaning T) (by : Bool) (xs : List T) (count i asked sent : ℕ) (r r' : M) (e : Edge) (n : M) (p : Hold) (below : Inputs M) (q : Hold) (beside beside' : Inputs M) →
    IsRowBatch b m by count (i + 1) asked sent r beside xs r' beside' → IsRowBatch b m by count i asked sent r (More' e n p below q beside) xs r' (More' e n p below q beside')
batch_beside b m by [] count i asked sent r r' e n p below q beside beside' h = run_beside b m true count i asked sent r r' e n p below q beside beside' h
batch_beside b m by (x ∷ xs) count i asked sent r r' e n p below q beside beside' h =
    (h.0, h.1, h.2, More' e n p below q h.3, h.4, h.5, run_beside b m true h.0 i asked sent r h.2 e n p below q beside h.3 h.6, h.7, batch_beside b m by xs h.1 i asked (sent + 1) h.4 r' e n p below q h.3 beside' h.8)
