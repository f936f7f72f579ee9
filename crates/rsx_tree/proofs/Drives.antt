-- Runs of moves: how they are put together.
use Rattle.std.proofs.Common.{◌||◌, ◌≡◌, ◌⊎◌, inl, inr, ℕ, zero, suc, ◌+◌, ◌-◌, ◌<◌, ◌≤◌, Bool, true, false, ◌&&◌, nat_eq, nat_le, if◌then◌else◌, refl, ap, sym, ◌∙◌, subst, arith, Option}
use Rattle.std.proofs.lemmas.Bool.Decides.{nat_tests}
use Rattle.std.specs.Box.{with_value}
use Rattle.std.proofs.lemmas.Bool.{both_ways, le-leb, lt-leb}
use Rattle.rsx_types.proofs.Numbers.{not_zero}
use Rattle.rsx_sources.specs.Prelude.{Meaning, note_then}
use Rattle.rsx_sources.specs.declared.machine.Machine.{Ghosts as Machine}
use Rattle.rsx_tree.specs.declared.edge.Edge.{Edge}
use Rattle.rsx_tree.specs.declared.inputs.Inputs.{Inputs, End, More'}
use Rattle.rsx_tree.specs.declared.inputs.Inputs.TheViews.{More}
use Rattle.rsx_tree.specs.declared.node.Node.{Node}
use Rattle.rsx_tree.specs.Edges.{EdgeView}
use Rattle.rsx_tree.specs.Inputs.{size, is_own, place, Place, closed_row_if, can_ask_in, can_send_in}
use Rattle.rsx_tree.specs.Changed.{Change, IsChanged, IsAskedOver, IsSentOver, Hold}
use Rattle.rsx_tree.specs.Stepped.{IsStepped, IsStepOf, IsStepOver, Step, Station, IsPickedHere, IsRowMadeHere, IsStill, station}
use Rattle.rsx_tree.specs.Driven.{IsMade, IsRowRun, IsRowStep, IsRowEnded, IsRowDriven, IsRowIdle, IsRestAt, IsRestOver, IsDriven, IsAdvanced, IsIdle}
use Rattle.rsx_tree.specs.declared.edge.EdgeState.TheVariants.{Live}
use Rattle.rsx_tree.specs.Chosen.{IsChosen}
use Rattle.rsx_tree.proofs.Noted.{pick_notes, row_notes, step_noted, picked_noted, row_noted, kept_chosen, chosen_then}
use Rattle.rsx_tree.proofs.Popped.{chosen_sent}
use Rattle.rsx_tree.proofs.Trees.{node, kept_asked, can_asked, asked_effect, can_sent, sent_effect}
use Rattle.rsx_tree.specs.Balance.{IsBalanced}
use Rattle.rsx_tree.proofs.Balances.{tree_ask_balanced, tree_send_balanced}
use Rattle.rsx_tree.proofs.Alike.{closed_alike, made_alike, made_crosses, reads_made, reads_closed_if, tree_alike}
use Rattle.rsx_tree.proofs.Rows.{size_sent}
use Rattle.rsx_tree.proofs.Runs.{leads_by_keep, leads_by_lift, leads_by_on}
use Rattle.rsx_tree.proofs.Effects.{row_asked}
use Rattle.rsx_tree.proofs.Changes.{Rest, chosen_first, chosen_second}

-- so much of a budget is left in a run of moves of a row that has led to this receiver and this row
pub record IsUnderWay {M T : Type 0} (b : Machine M T) (m : Meaning T) (steps : Bool) (i asked sent budget : ℕ) (r : M) (t : Inputs M) (left : ℕ) (r' : M) (t' : Inputs M) : Type 0 where
  pub count : ℕ
  pub spent : count + left ≡ budget
  pub run : IsRowRun b m steps count i asked sent r t r' t'

-- no move is enabled over the first edge and below it
pub record IsDone {M T : Type 0} (b : Machine M T) (m : Meaning T) (r : M) (i asked sent : ℕ) (e : Edge) (n : M) (below : Inputs M) : Type 0 where
  pub rest : IsRestOver b m r i asked sent e n
  pub idle : IsRowIdle b m n 0 e.demand.asked e.demand.sent below

-- the same of a tree
pub record IsTreeUnderWay {M T : Type 0} (b : Machine M T) (m : Meaning T) (steps : Bool) (old : Node M) (asked sent budget left : ℕ) (now : Node M) : Type 0 where
  pub count : ℕ
  pub spent : count + left ≡ budget
  pub run : IsDriven b m steps count old asked sent now
  pub chosen : IsChosen b m old now
  pub balance : (s : ℕ) → IsBalanced b old s → IsBalanced b now s

-- ---- a move of a part of the row is one of the row

and_false : (x : Bool) → false ≡ (x && false)
and_false true = refl
and_false false = refl

and_true : (x : Bool) → (x && true) ≡ x
and_true true = refl
and_true false = refl

pub changed_within : {M : Type 0} (P : Change M) (ends : M → Bool) (r : M) (i asked sent : ℕ) (t : Inputs M) (at : ℕ) (r' : M) (t' : Inputs M) → IsChanged P ends r i asked sent t at r' t' → at < size t
changed_within P ends r i asked sent End at r' t' h = absurd h
changed_within P ends r i asked sent (More' e n p below q beside) at r' t' h = elim h [
  | inl x ↦ let z = x.at_is in omega (arith, z)
  | inr y ↦ elim y [
    | inl x ↦ let w = x.within in omega (arith, w)
    | inr x ↦ let w = changed_within P ends r (i + 1) asked sent beside (at - 1 - size below) r' x.beside' x.made in let l = x.beyond in omega (arith, w, l)
  ]
]

stepped_within : {M : Type 0} (P : Step M) (ends : M → Bool) (t : Inputs M) (at : ℕ) (t' : Inputs M) → IsStepped P ends t at t' → at < size t
stepped_within P ends End at t' h = absurd h
stepped_within P ends (More' e n p below q beside) at t' h = elim h [
  | inl x ↦ let z = x.at_is in omega (arith, z)
  | inr y ↦ elim y [
    | inl x ↦ let w = x.within in omega (arith, w)
    | inr x ↦ let w = stepped_within P ends beside (at - 1 - size below) x.beside' x.made in let l = x.beyond in omega (arith, w, l)
  ]
]

pub back : (at : ℕ) → at ≡ at + 1 - 1
back at = omega arith

pub back_over : (at k : ℕ) → at ≡ at + 1 + k - 1 - k
back_over at k = omega arith

not_own : {M : Type 0} (e : Edge) (n : M) (p q : Hold) (below beside : Inputs M) (at : ℕ) → 0 < at → at ≤ size below → is_own (More' e n p below q beside) at ≡ false
not_own e n p q below beside at above within = chosen_second (nat_eq at 0) _ _ (not_zero at above) ∙ chosen_first (nat_le at (size below)) _ _ (le-leb at (size below) within)

own_beside : {M : Type 0} (e : Edge) (n : M) (p q : Hold) (below beside : Inputs M) (at : ℕ) → is_own (More' e n p below q beside) (at + 1 + size below) ≡ is_own beside at
own_beside e n p q below beside at =
    chosen_second (nat_eq (at + 1 + size below) 0) _ _ (not_zero (at + 1 + size below) (omega arith))
    ∙ (chosen_second (nat_le (at + 1 + size below) (size below)) _ _ (lt-leb (at + 1 + size below) (size below) (omega arith)) ∙ ap (λ k. is_own beside k) (sym (back_over at (size below))))

-- a move below the first node
pub made_below : {M T : Type 0} (b : Machine M T) (m : Meaning T) (steps : Bool) (r : M) (i asked sent : ℕ) (e : Edge) (n : M) (p : Hold) (below : Inputs M) (q : Hold) (beside : Inputs M) (at : ℕ) (ends : Bool) (n' : M) (mid : Inputs M) →
    IsMade b m steps n 0 e.demand.asked e.demand.sent below at ends n' mid → IsMade b m steps r i asked sent (More' e n p below q beside) (at + 1) false r (More' e n' p (closed_row_if ends mid) q beside)
made_below {M} b m steps r i asked sent e n p below q beside at ends n' mid h = elim h [
  | inl x ↦
      let w = changed_within (IsAskedOver b) (λ k. false) n 0 e.demand.asked e.demand.sent below at n' mid x.made in
      let K : ℕ → Type 0 = λ k. IsChanged (IsAskedOver b) (λ n. false) n 0 e.demand.asked e.demand.sent below k n' mid in
      inl (record {
        made = inr (inl (record { n' = n'; mid = mid; above = omega arith; within = omega (arith, w); receiver = refl; made = subst K (back at) x.made; new_is = ap (λ c. More' e n' p (closed_row_if c mid) q beside) x.stays }));
        stays = refl;
      })
  | inr y ↦ elim y [
    | inl x ↦
        let w = changed_within (IsSentOver b m) b.ended n 0 e.demand.asked e.demand.sent below at n' mid (x.made e.demand.asked e.demand.sent) in
        let K : ℕ → Type 0 = λ k. IsChanged (IsSentOver b m) b.ended n 0 e.demand.asked e.demand.sent below k n' mid in
        inr (inl (record {
          made = λ a s. inr (inl (record {
            n' = n';
            mid = mid;
            above = omega arith;
            within = omega (arith, w);
            receiver = refl;
            made = subst K (back at) (x.made e.demand.asked e.demand.sent);
            new_is = ap (λ c. More' e n' p (closed_row_if c mid) q beside) (x.ends_is ∙ ap (λ k. b.ended n' && is_own below k) (back at));
          }));
          ends_is = and_false (b.ended r) ∙ ap (λ o. b.ended r && o) (sym (not_own e n p q below beside (at + 1) (omega arith) (omega (arith, w))));
        }))
    | inr z ↦
        let x = z.1 in
        let same : More' e n' p (closed_row_if ends mid) q beside ≡ More' e n p mid q beside = ap (λ k. More' e k p (closed_row_if ends mid) q beside) x.receiver ∙ ap (λ c. More' e n p (closed_row_if c mid) q beside) x.stays in
        inr (inr (
          z.0,
          record {
            made = elim x.made [
              | inl k ↦
                  let w = stepped_within (IsPickedHere b m k.0) b.ended below at mid k.1 in
                  let K : ℕ → Type 0 = λ j. IsStepped (IsPickedHere b m k.0) b.ended below j mid in
                  inl (k.0, inr (inl (record { below' = mid; above = omega arith; within = omega (arith, w); made = subst K (back at) k.1; new_is = same })))
              | inr k ↦
                  let w = stepped_within (IsRowMadeHere b m) b.ended below at mid k in
                  let K : ℕ → Type 0 = λ j. IsStepped (IsRowMadeHere b m) b.ended below j mid in
                  inr (inr (inl (record { below' = mid; above = omega arith; within = omega (arith, w); made = subst K (back at) k; new_is = same })))
            ];
            receiver = refl;
            stays = refl;
          },
        ))
  ]
]

-- a move beside the first
pub made_beside : {M T : Type 0} (b : Machine M T) (m : Meaning T) (steps : Bool) (r : M) (i asked sent : ℕ) (e : Edge) (n : M) (p : Hold) (below : Inputs M) (q : Hold) (beside : Inputs M) (at : ℕ) (ends : Bool) (r' : M) (beside' : Inputs M) →
    IsMade b m steps r (i + 1) asked sent beside at ends r' beside' → IsMade b m steps r i asked sent (More' e n p below q beside) (at + 1 + size below) ends r' (More' e n p below q beside')
made_beside {M} b m steps r i asked sent e n p below q beside at ends r' beside' h = elim h [
  | inl x ↦
      let K : ℕ → Type 0 = λ k. IsChanged (IsAskedOver b) (λ n. false) r (i + 1) asked sent beside k r' beside' in
      inl (record { made = inr (inr (record { beside' = beside'; beyond = omega arith; made = subst K (back_over at (size below)) x.made; new_is = refl })); stays = x.stays })
  | inr y ↦ elim y [
    | inl x ↦
        inr (inl (record {
          made = λ a s.
              let K : ℕ → Type 0 = λ k. IsChanged (IsSentOver b m) b.ended r (i + 1) a s beside k r' beside' in
              inr (inr (record { beside' = beside'; beyond = omega arith; made = subst K (back_over at (size below)) (x.made a s); new_is = refl }));
          ends_is = x.ends_is ∙ ap (λ o. b.ended r' && o) (sym (own_beside e n p q below beside at));
        }))
    | inr z ↦
        let x = z.1 in
        inr (inr (
          z.0,
          record {
            made = elim x.made [
              | inl k ↦
                  let K : ℕ → Type 0 = λ j. IsStepped (IsPickedHere b m k.0) b.ended beside j beside' in
                  inl (k.0, inr (inr (record { beside' = beside'; beyond = omega arith; made = subst K (back_over at (size below)) k.1; new_is = refl })))
              | inr k ↦
                  let K : ℕ → Type 0 = λ j. IsStepped (IsRowMadeHere b m) b.ended beside j beside' in
                  inr (inr (inr (record { beside' = beside'; beyond = omega arith; made = subst K (back_over at (size below)) k; new_is = refl })))
            ];
            receiver = x.receiver;
            stays = x.stays;
          },
        ))
  ]
]

-- ---- runs

pub driven_then : {M T : Type 0} (b : Machine M T) (m : Meaning T) (steps : Bool) (n k : ℕ) (over : Bool) (i asked sent : ℕ) (r r1 r' : M) (t t1 t' : Inputs M) → IsRowRun b m steps n i asked sent r t r1 t1 → IsRowDriven b m steps k over i asked sent r1 t1 r' t' → IsRowDriven b m steps (n + k) over i asked sent r t r' t'
driven_then b m steps n k false i asked sent r r1 r' t t1 t' first rest = leads_by_on (IsRowStep b m steps i asked sent) n k (r, t) (r1, t1) (r', t') first rest
driven_then b m steps n k true i asked sent r r1 r' t t1 t' first rest = record {
  before = n + rest.before;
  count = let c = rest.count in omega (arith, c);
  r1 = rest.r1;
  t1 = rest.t1;
  at = rest.at;
  run = leads_by_on (IsRowStep b m steps i asked sent) n rest.before (r, t) (r1, t1) (rest.r1, rest.t1) first rest.run;
  last = rest.last;
}

-- a run below the first node
pub run_below : {M T : Type 0} (b : Machine M T) (m : Meaning T) (steps : Bool) (k i asked sent : ℕ) (r : M) (e : Edge) (n n' : M) (p : Hold) (below below' : Inputs M) (q : Hold) (beside : Inputs M) →
    IsRowRun b m steps k 0 e.demand.asked e.demand.sent n below n' below' → IsRowRun b m steps k i asked sent r (More' e n p below q beside) r (More' e n' p below' q beside)
run_below {M} b m steps k i asked sent r e n n' p below below' q beside h =
    leads_by_lift (IsRowStep b m steps 0 e.demand.asked e.demand.sent) (IsRowStep b m steps i asked sent) (λ (x : M × Inputs M). (r, More' e x.0 p x.1 q beside)) (λ x y s. (s.0 + 1, made_below b m steps r i asked sent e x.0 p x.1 q beside s.0 false y.0 y.1 s.1)) k (n, below) (n', below') h

pub driven_below : {M T : Type 0} (b : Machine M T) (m : Meaning T) (steps : Bool) (k : ℕ) (over : Bool) (i asked sent : ℕ) (r : M) (e : Edge) (n n' : M) (p : Hold) (below below' : Inputs M) (q : Hold) (beside : Inputs M) →
    IsRowDriven b m steps k over 0 e.demand.asked e.demand.sent n below n' below' → IsRowRun b m steps k i asked sent r (More' e n p below q beside) r (More' e n' p (closed_row_if over below') q beside)
driven_below b m steps k false i asked sent r e n n' p below below' q beside h = run_below b m steps k i asked sent r e n n' p below below' q beside h
driven_below {M} b m steps k true i asked sent r e n n' p below below' q beside h =
    let Q : ℕ → Type 0 = λ j. IsRowRun b m steps j i asked sent r (More' e n p below q beside) r (More' e n' p (closed_row_if true below') q beside) in
    subst Q (sym h.count) (leads_by_on (IsRowStep b m steps i asked sent) h.before 1 (r, (More' e n p below q beside)) (r, (More' e h.r1 p h.t1 q beside)) (r, (More' e n' p (closed_row_if true below') q beside))
    (run_below b m steps h.before i asked sent r e n h.r1 p below h.t1 q beside h.run)
    (((r, More' e n' p (closed_row_if true below') q beside), ((h.at + 1), made_below b m steps r i asked sent e h.r1 p h.t1 q beside h.at true n' below' h.last), refl)))

-- a run of the inputs beside the first
pub run_beside : {M T : Type 0} (b : Machine M T) (m : Meaning T) (steps : Bool) (k i asked sent : ℕ) (r r' : M) (e : Edge) (n : M) (p : Hold) (below : Inputs M) (q : Hold) (beside beside' : Inputs M) →
    IsRowRun b m steps k (i + 1) asked sent r beside r' beside' → IsRowRun b m steps k i asked sent r (More' e n p below q beside) r' (More' e n p below q beside')
run_beside {M} b m steps k i asked sent r r' e n p below q beside beside' h =
    leads_by_lift (IsRowStep b m steps (i + 1) asked sent) (IsRowStep b m steps i asked sent) (λ (x : M × Inputs M). (x.0, More' e n p below q x.1)) (λ x y s. (s.0 + 1 + size below, made_beside b m steps x.0 i asked sent e n p below q x.1 s.0 false y.0 y.1 s.1)) k (r, beside) (r', beside') h

pub driven_beside : {M T : Type 0} (b : Machine M T) (m : Meaning T) (steps : Bool) (k : ℕ) (over : Bool) (i asked sent : ℕ) (r r' : M) (e : Edge) (n : M) (p : Hold) (below : Inputs M) (q : Hold) (beside beside' : Inputs M) →
    IsRowDriven b m steps k over (i + 1) asked sent r beside r' beside' → IsRowDriven b m steps k over i asked sent r (More' e n p below q beside) r' (More' e n p below q beside')
driven_beside b m steps k false i asked sent r r' e n p below q beside beside' h = run_beside b m steps k i asked sent r r' e n p below q beside beside' h
driven_beside b m steps k true i asked sent r r' e n p below q beside beside' h = record {
  before = h.before;
  count = h.count;
  r1 = h.r1;
  t1 = More' e n p below q h.t1;
  at = h.at + 1 + size below;
  run = run_beside b m steps h.before i asked sent r h.r1 e n p below q beside h.t1 h.run;
  last = made_beside b m steps h.r1 i asked sent e n p below q h.t1 h.at true r' beside' h.last;
}

-- ---- the loop over one edge

and_same : (x : Bool) → x ≡ (x && true)
and_same true = refl
and_same false = refl

pub sent_here : {M T : Type 0} (b : Machine M T) (m : Meaning T) (steps ends : Bool) (i asked sent : ℕ) (r r' : M) (e e' : Edge) (n n' : M) (below : Inputs M) → ((a s : ℕ) → IsSentOver b m r i a s e n r' e' n') → b.ended r' ≡ ends →
    (p q : Hold) (beside : Inputs M) → IsMade b m steps r i asked sent (More' e n p below q beside) 0 ends r' (More' e' n' p below q beside)
sent_here b m steps ends i asked sent r r' e e' n n' below h o p q beside = inr (inl (record {
  made = λ a s. inl (record { e' = e'; n' = n'; at_is = refl; made = h a s; new_is = refl });
  ends_is = sym o ∙ and_same (b.ended r');
}))

pub asked_here : {M T : Type 0} (b : Machine M T) (m : Meaning T) (steps : Bool) (i asked sent : ℕ) (r r' : M) (e e' : Edge) (n n' : M) (below : Inputs M) → IsAskedOver b r i asked sent e n r' e' n' →
    (p q : Hold) (beside : Inputs M) → IsMade b m steps r i asked sent (More' e n p below q beside) 0 false r' (More' e' n' p below q beside)
asked_here b m steps i asked sent r r' e e' n n' below h p q beside = inl (record { made = inl (record { e' = e'; n' = n'; at_is = refl; made = h; new_is = refl }); stays = refl })

pub step_here : {M T : Type 0} (b : Machine M T) (m : Meaning T) (i asked sent : ℕ) (r : M) (e : Edge) (n n' : M) (below below' : Inputs M) → IsStepOver (IsStepOf b m) b.ended e n below n' below' →
    (p q : Hold) (beside : Inputs M) → IsMade b m true r i asked sent (More' e n p below q beside) 0 false r (More' e n' p below' q beside)
step_here b m i asked sent r e n n' below below' h p q beside = inr (inr (
  refl,
  record {
    made = elim h.made [
      | inl k ↦ inl (k.0, inl (record { n' = n'; at_is = refl; live = h.live; made = k.1; new_is = ap (λ t. More' e n' p t q beside) h.shut }))
      | inr k ↦ inr (inl (record { n' = n'; at_is = refl; live = h.live; made = k; new_is = ap (λ t. More' e n' p t q beside) h.shut }))
    ];
    receiver = refl;
    stays = refl;
  },
))

-- the same after calls that changed nothing
pub made_after : {M T : Type 0} (b : Machine M T) (m : Meaning T) (steps ends : Bool) (i asked sent : ℕ) (r r1 r' : M) (e e1 e' : Edge) (n n1 n' : M) (below below' : Inputs M) → r1 ≡ r → e1 ≡ e → n1 ≡ n →
    ((p q : Hold) (beside : Inputs M) → IsMade b m steps r1 i asked sent (More' e1 n1 p below q beside) 0 ends r' (More' e' n' p below' q beside)) →
    (p q : Hold) (beside : Inputs M) → IsMade b m steps r i asked sent (More' e n p below q beside) 0 ends r' (More' e' n' p below' q beside)
made_after {M} b m steps ends i asked sent r r1 r' e e1 e' n n1 n' below below' same_r same_e same_n h p q beside =
    let R : M → Type 0 = λ x. IsMade b m steps x i asked sent (More' e1 n1 p below q beside) 0 ends r' (More' e' n' p below' q beside) in
    let E : Edge → Type 0 = λ x. IsMade b m steps r i asked sent (More' x n1 p below q beside) 0 ends r' (More' e' n' p below' q beside) in
    let N : M → Type 0 = λ x. IsMade b m steps r i asked sent (More' e x p below q beside) 0 ends r' (More' e' n' p below' q beside) in
    subst N same_n (subst E same_e (subst R same_r (h p q beside)))

-- one more move over the edge, or of its sender
pub under_way_made : {M T : Type 0} (b : Machine M T) (m : Meaning T) (steps : Bool) (i asked sent budget left : ℕ) (r0 : M) (t0 : Inputs M) (r r' : M) (e e' : Edge) (n n' : M) (below beside : Rest M) (was new : Inputs M) →
    IsUnderWay b m steps i asked sent budget r0 t0 left r (More e n below beside) → 0 < left → was ≡ below.value → ((p q : Hold) (u : Inputs M) → IsMade b m steps r i asked sent (More' e n p was q u) 0 false r' (More' e' n' p new q u)) →
    IsUnderWay b m steps i asked sent budget r0 t0 (left - 1) r' (More e' n' (with_value below new) beside)
under_way_made {M} b m steps i asked sent budget left r0 t0 r r' e e' n n' below beside was new u some at h =
    let P : Hold = record { ptr = below.ptr; alloc = below.alloc; value = tt } in
    let Q : Hold = record { ptr = beside.ptr; alloc = beside.alloc; value = tt } in
    let W : Inputs M → Type 0 = λ x. IsMade b m steps r i asked sent (More' e n P x Q beside.value) 0 false r' (More' e' n' P new Q beside.value) in
    record {
      count = u.count + 1;
      spent = let q = u.spent in omega (arith, q, some);
      run = leads_by_on (IsRowStep b m steps i asked sent) u.count 1 (r0, t0) (r, (More e n below beside)) (r', (More e' n' (with_value below new) beside)) u.run
          (((r', More e' n' (with_value below new) beside), (0, subst W at (h P Q beside.value)), refl));
    }

-- a last move over the edge, by which the receiver ended
pub ended_made : {M T : Type 0} (b : Machine M T) (m : Meaning T) (steps : Bool) (i asked sent budget left : ℕ) (r0 : M) (t0 : Inputs M) (r r' : M) (e e' : Edge) (n n' : M) (below beside : Rest M) (was new : Inputs M) →
    IsUnderWay b m steps i asked sent budget r0 t0 left r (More e n below beside) → 0 < left → was ≡ below.value → ((p q : Hold) (u : Inputs M) → IsMade b m steps r i asked sent (More' e n p was q u) 0 true r' (More' e' n' p new q u)) →
    (x : ℕ) × (x + (left - 1) ≡ budget) × IsRowEnded b m steps x i asked sent r0 t0 r' (More e' n' (with_value below new) beside)
ended_made {M} b m steps i asked sent budget left r0 t0 r r' e e' n n' below beside was new u some at h =
    let P : Hold = record { ptr = below.ptr; alloc = below.alloc; value = tt } in
    let Q : Hold = record { ptr = beside.ptr; alloc = beside.alloc; value = tt } in
    let W : Inputs M → Type 0 = λ x. IsMade b m steps r i asked sent (More' e n P x Q beside.value) 0 true r' (More' e' n' P new Q beside.value) in (
      u.count + 1,
      let q = u.spent in omega (arith, q, some),
      record { before = u.count; count = refl; r1 = r; t1 = More e n below beside; at = 0; run = u.run; last = subst W at (h P Q beside.value) },
    )

pub under_way_sent : {M T : Type 0} (b : Machine M T) (m : Meaning T) (steps : Bool) (i asked sent budget left : ℕ) (r0 : M) (t0 : Inputs M) (r r' : M) (e e' : Edge) (n n' : M) (below beside : Rest M) →
    IsUnderWay b m steps i asked sent budget r0 t0 left r (More e n below beside) → 0 < left → ((a s : ℕ) → IsSentOver b m r i a s e n r' e' n') → b.ended r' ≡ false → IsUnderWay b m steps i asked sent budget r0 t0 (left - 1) r' (More e' n' below beside)
under_way_sent b m steps i asked sent budget left r0 t0 r r' e e' n n' below beside u some h o =
    under_way_made b m steps i asked sent budget left r0 t0 r r' e e' n n' below beside below.value below.value u some refl (sent_here b m steps false i asked sent r r' e e' n n' below.value h o)

pub under_way_asked : {M T : Type 0} (b : Machine M T) (m : Meaning T) (steps : Bool) (i asked sent budget left : ℕ) (r0 : M) (t0 : Inputs M) (r r' : M) (e e' : Edge) (n n' : M) (below beside : Rest M) →
    IsUnderWay b m steps i asked sent budget r0 t0 left r (More e n below beside) → 0 < left → IsAskedOver b r i asked sent e n r' e' n' → IsUnderWay b m steps i asked sent budget r0 t0 (left - 1) r' (More e' n' below beside)
under_way_asked b m steps i asked sent budget left r0 t0 r r' e e' n n' below beside u some h =
    under_way_made b m steps i asked sent budget left r0 t0 r r' e e' n n' below beside below.value below.value u some refl (asked_here b m steps i asked sent r r' e e' n n' below.value h)

-- no move over the edge, then a run below it
pub under_way_below : {M T : Type 0} (b : Machine M T) (m : Meaning T) (steps : Bool) (i asked sent budget left left' k : ℕ) (over : Bool) (r0 : M) (t0 : Inputs M) (r r' : M) (e e' : Edge) (n n1 n' : M) (below beside : Rest M) (was now new : Inputs M) →
    IsUnderWay b m steps i asked sent budget r0 t0 left r (More e n below beside) → r' ≡ r → e' ≡ e → n1 ≡ n → was ≡ below.value → k + left' ≡ left →
    IsRowDriven b m steps k over 0 e'.demand.asked e'.demand.sent n1 was n' now → new ≡ closed_row_if over now → IsUnderWay b m steps i asked sent budget r0 t0 left' r' (More e' n' (with_value below new) beside)
under_way_below {M} b m steps i asked sent budget left left' k over r0 t0 r r' e e' n n1 n' below beside was now new u same_r same_e same_n at spent h shut =
    let R : M → Type 0 = λ x. IsRowRun b m steps u.count i asked sent r0 t0 x (More e n below beside) in
    let E : Edge → Type 0 = λ x. IsRowRun b m steps u.count i asked sent r0 t0 r' (More x n below beside) in
    let N : M → Type 0 = λ x. IsRowRun b m steps u.count i asked sent r0 t0 r' (More e' x below beside) in
    let W : Inputs M → Type 0 = λ x. IsRowDriven b m steps k over 0 e'.demand.asked e'.demand.sent n1 x n' now in
    let S : Inputs M → Type 0 = λ x. IsRowRun b m steps k i asked sent r' (More e' n1 below beside) r' (More e' n' (with_value below x) beside) in
    let P : Hold = record { ptr = below.ptr; alloc = below.alloc; value = tt } in
    let Q : Hold = record { ptr = beside.ptr; alloc = beside.alloc; value = tt } in
    let more : IsRowRun b m steps k i asked sent r' (More e' n1 below beside) r' (More e' n' (with_value below (closed_row_if over now)) beside) = driven_below b m steps k over i asked sent r' e' n1 n' P below.value now Q beside.value (subst W at h) in
    record {
      count = u.count + k;
      spent = let q = u.spent in omega (arith, q, spent);
      run = leads_by_on (IsRowStep b m steps i asked sent) u.count k (r0, t0) (r', (More e' n1 below beside)) (r', (More e' n' (with_value below new) beside)) (subst N (sym same_n) (subst E (sym same_e) (subst R (sym same_r) u.run))) (subst S (sym shut) more);
    }

-- a run of the inputs beside
pub over_beside : {M T : Type 0} (b : Machine M T) (m : Meaning T) (steps : Bool) (i next asked sent budget left left' k : ℕ) (over : Bool) (r0 : M) (t0 : Inputs M) (r r' : M) (e : Edge) (n : M) (below beside : Rest M) (was now : Inputs M) →
    IsUnderWay b m steps i asked sent budget r0 t0 left r (More e n below beside) → next ≡ i + 1 → was ≡ beside.value → k + left' ≡ left → IsRowDriven b m steps k over next asked sent r was r' now →
    (x : ℕ) × (x + left' ≡ budget) × IsRowDriven b m steps x over i asked sent r0 t0 r' (More e n below (with_value beside now))
over_beside {M} b m steps i next asked sent budget left left' k over r0 t0 r r' e n below beside was now u up at spent h =
    let I : ℕ → Type 0 = λ j. IsRowDriven b m steps k over j asked sent r was r' now in
    let W : Inputs M → Type 0 = λ x. IsRowDriven b m steps k over (i + 1) asked sent r x r' now in
    let P : Hold = record { ptr = below.ptr; alloc = below.alloc; value = tt } in
    let Q : Hold = record { ptr = beside.ptr; alloc = beside.alloc; value = tt } in (
      u.count + k,
      let q = u.spent in omega (arith, q, spent),
      driven_then b m steps u.count k over i asked sent r0 r r' t0 (More e n below beside) (More e n below (with_value beside now)) u.run (driven_beside b m steps k over i asked sent r r' e n P below.value Q beside.value now (subst W at (subst I up h))),
    )

-- ---- idle

-- a run of no moves
pub nothing_done : {M T : Type 0} (b : Machine M T) (m : Meaning T) (steps : Bool) (k : ℕ) (over : Bool) (i asked sent : ℕ) (r r' : M) (t t' : Inputs M) → k ≡ 0 → IsRowDriven b m steps k over i asked sent r t r' t' → (over ≡ false) × (r' ≡ r) × (t' ≡ t)
nothing_done b m steps zero false i asked sent r r' t t' z h = (refl, ap (λ x. x.0) h, ap (λ x. x.1) h)
nothing_done b m steps (suc k) false i asked sent r r' t t' z h = cc
nothing_done b m steps k true i asked sent r r' t t' z h = let c = h.count in absurd (omega (arith, z, c))

pub idle_end : {M T : Type 0} (b : Machine M T) (m : Meaning T) (r : M) (i asked sent : ℕ) (t : Inputs M) → t ≡ End → IsRowIdle b m r i asked sent t
idle_end {M} b m r i asked sent t is = let Q : Inputs M → Type 0 = λ x. IsRowIdle b m r i asked sent x in subst Q (sym is) (λ at lt. (refl, refl, ((λ k l. refl), refl)))

-- the same place and the same node
pub rest_where : {M T : Type 0} (b : Machine M T) (m : Meaning T) (o o' : Option (Place M)) (s s' : Option (Station M)) → o ≡ o' → s ≡ s' → (can_ask_in b o' ≡ false) × (can_send_in b m o' ≡ false) × IsStill b s' → (can_ask_in b o ≡ false) × (can_send_in b m o ≡ false) × IsStill b s
rest_where {M} b m o o' s s' is at h = let S : Option (Station M) → Type 0 = λ x. IsStill b x in (ap (can_ask_in b) is ∙ h.0, ap (can_send_in b m) is ∙ h.1, subst S (sym at) h.2)

pub idle_whole : {M T : Type 0} (b : Machine M T) (m : Meaning T) (r : M) (i asked sent : ℕ) (e : Edge) (n : M) (below beside : Rest M) → IsDone b m r i asked sent e n below.value → IsRowIdle b m r (i + 1) asked sent beside.value → IsRowIdle b m r i asked sent (More e n below beside)
idle_whole b m r i asked sent e n below beside d h zero lt = (d.rest.ask, d.rest.send, d.rest.still)
idle_whole {M} b m r i asked sent e n below beside d h (suc k) lt = deeper (nat_le (suc k) (size below.value)) refl
  where
    deeper : (c : Bool) → nat_le (suc k) (size below.value) ≡ c → IsRestAt b m r i asked sent (More e n below beside) (suc k)
    deeper true c = rest_where b m _ (place n 0 e.demand.asked e.demand.sent below.value (suc k - 1)) _ (station below.value (suc k - 1))
        (chosen_second (nat_eq (suc k) 0) _ _ (not_zero (suc k) (omega arith)) ∙ chosen_first (nat_le (suc k) (size below.value)) (place n 0 e.demand.asked e.demand.sent below.value (suc k - 1)) (place r (i + 1) asked sent beside.value (suc k - 1 - size below.value)) c)
        (chosen_second (nat_eq (suc k) 0) _ _ (not_zero (suc k) (omega arith)) ∙ chosen_first (nat_le (suc k) (size below.value)) (station below.value (suc k - 1)) (station beside.value (suc k - 1 - size below.value)) c)
        (d.idle (suc k - 1) (omega (arith, lt)))
    deeper false c = rest_where b m _ (place r (i + 1) asked sent beside.value (suc k - 1 - size below.value)) _ (station beside.value (suc k - 1 - size below.value))
        (chosen_second (nat_eq (suc k) 0) _ _ (not_zero (suc k) (omega arith)) ∙ chosen_second (nat_le (suc k) (size below.value)) (place n 0 e.demand.asked e.demand.sent below.value (suc k - 1)) (place r (i + 1) asked sent beside.value (suc k - 1 - size below.value)) c)
        (chosen_second (nat_eq (suc k) 0) _ _ (not_zero (suc k) (omega arith)) ∙ chosen_second (nat_le (suc k) (size below.value)) (station below.value (suc k - 1)) (station beside.value (suc k - 1 - size below.value)) c)
        (h (suc k - 1 - size below.value) (omega (arith, lt)))

-- no move over the edge, and none below it
pub done_below : {M T : Type 0} (b : Machine M T) (m : Meaning T) (steps : Bool) (i asked sent k : ℕ) (over : Bool) (r r' : M) (e e' : Edge) (n n1 n' : M) (was now new : Inputs M) →
    r' ≡ r → e' ≡ e → n1 ≡ n → IsRestOver b m r i asked sent e n →
    k ≡ 0 → IsRowDriven b m steps k over 0 e'.demand.asked e'.demand.sent n1 was n' now → new ≡ closed_row_if over now → IsRowIdle b m n' 0 e'.demand.asked e'.demand.sent now → IsDone b m r' i asked sent e' n' new
done_below {M} b m steps i asked sent k over r r' e e' n n1 n' was now new same_r same_e same_n rest none h shut idle =
    let z = nothing_done b m steps k over 0 e'.demand.asked e'.demand.sent n1 n' was now none h in
    let I : Inputs M → Type 0 = λ x. IsRowIdle b m n' 0 e'.demand.asked e'.demand.sent x in
    let R : M → Type 0 = λ x. IsRestOver b m x i asked sent e n in
    let E : Edge → Type 0 = λ x. IsRestOver b m r' i asked sent x n in
    let N : M → Type 0 = λ x. IsRestOver b m r' i asked sent e' x in
    record {
      rest = subst N (sym (z.1 ∙ same_n)) (subst E (sym same_e) (subst R (sym same_r) rest));
      idle = subst I (sym (shut ∙ ap (λ c. closed_row_if c now) z.0)) idle;
    }

pub shut_by : {M : Type 0} (over : Bool) (was now new : Inputs M) → new ≡ closed_row_if (over && true) was → was ≡ now → new ≡ closed_row_if over now
shut_by over was now new is at = is ∙ (ap (λ c. closed_row_if c was) (and_true over) ∙ ap (λ x. closed_row_if over x) at)

pub still_some : (x : Bool) (k : ℕ) → (x || nat_eq k 0) ≡ false → 0 < k
still_some true k e = cc
still_some false zero e = cc
still_some false (suc k) e = omega arith

-- ---- a run leaves as many nodes

size_made : {M T : Type 0} (b : Machine M T) (m : Meaning T) (steps : Bool) (r : M) (i asked sent : ℕ) (t : Inputs M) (at : ℕ) (r' : M) (t' : Inputs M) → IsMade b m steps r i asked sent t at false r' t' → size t' ≡ size t
size_made b m steps r i asked sent t at r' t' h = elim h [
  | inl x ↦ (row_asked b (λ n. false) r i asked sent t at r' t' (λ n. refl) x.made).size
  | inr y ↦ elim y [
    | inl x ↦ size_sent b m b.ended r i asked sent t at r' t' (x.made asked sent)
    | inr z ↦ elim z.1.made [
      | inl x ↦ (step_noted b m (IsPickedHere b m x.0) (λ n k. note_then (b.recording n x.0) k) (λ n k. note_then k (b.recording n x.0)) (pick_notes b m x.0) t at t' x.1).size
      | inr x ↦ (step_noted b m (IsRowMadeHere b m) (λ n k. k) (λ n k. k) (row_notes b m) t at t' x).size
    ]
  ]
]

pub size_run : {M T : Type 0} (b : Machine M T) (m : Meaning T) (steps : Bool) (k i asked sent : ℕ) (r r' : M) (t t' : Inputs M) → IsRowRun b m steps k i asked sent r t r' t' → size t' ≡ size t
size_run {M} b m steps k i asked sent r r' t t' h = leads_by_keep (IsRowStep b m steps i asked sent) (λ (x : M × Inputs M). size x.1 ≡ size t) (λ x y s e. size_made b m steps x.0 i asked sent x.1 s.0 y.0 y.1 s.1 ∙ e) k (r, t) (r', t') h refl

-- ---- a tree

-- whether a Send is enabled doesn't depend on what is asked of the receiver
if_same : {A : Type 0} (f : A → Bool) (c d : Bool) (x x' y z z' : A) → f x ≡ f x' → f z ≡ f z' → f (if c then x else (if d then y else z)) ≡ f (if c then x' else (if d then y else z'))
if_same f true d x x' y z z' p q = p
if_same f false true x x' y z z' p q = refl
if_same f false false x x' y z z' p q = q

pub send_anywhere : {M T : Type 0} (b : Machine M T) (m : Meaning T) (r : M) (i a s a' s' : ℕ) (t : Inputs M) (at : ℕ) → can_send_in b m (place r i a s t at) ≡ can_send_in b m (place r i a' s' t at)
send_anywhere b m r i a s a' s' End at = refl
send_anywhere b m r i a s a' s' (More' e n p below q beside) at =
    if_same (can_send_in b m) (nat_eq at 0) (nat_le at (size below)) _ _ _ (place r (i + 1) a s beside (at - 1 - size below)) (place r (i + 1) a' s' beside (at - 1 - size below)) refl (send_anywhere b m r (i + 1) a s a' s' beside (at - 1 - size below))

pub idle_tree : {M T : Type 0} (b : Machine M T) (m : Meaning T) (r : M) (t : Inputs M) (asked sent : ℕ) → IsRowIdle b m r 0 asked sent t → IsIdle b m (node r t) asked sent
idle_tree b m r t asked sent h at lt = let q = h at (omega (arith, lt)) in (q.0, send_anywhere b m r 0 0 0 asked sent t at ∙ q.1, q.2)

receiver_same : {M T : Type 0} (b : Machine M T) (ends : M → Bool) (r : M) (i asked sent : ℕ) (t : Inputs M) (at : ℕ) (r' : M) (t' : Inputs M) → IsChanged (IsAskedOver b) ends r i asked sent t at r' t' → r' ≡ r
receiver_same b ends r i asked sent End at r' t' h = absurd h
receiver_same b ends r i asked sent (More' e n p below q beside) at r' t' h = elim h [ inl x ↦ x.made.receiver | inr y ↦ elim y [ inl x ↦ x.receiver | inr x ↦ receiver_same b ends r (i + 1) asked sent beside (at - 1 - size below) r' x.beside' x.made ] ]

-- a pick or a row of a node of the root's row
stepped_chosen : {M T : Type 0} (b : Machine M T) (m : Meaning T) (r : M) (asked sent at : ℕ) (t t' : Inputs M) → ((input : ℕ) × IsStepped (IsPickedHere b m input) b.ended t at t') ⊎ IsStepped (IsRowMadeHere b m) b.ended t at t' →
    IsChosen b m (node r t) (node r t') × ((s : ℕ) → IsBalanced b (node r t) s → IsBalanced b (node r t') s)
stepped_chosen b m r asked sent at t t' h =
    let e : EdgeView = record { asked = asked; sent = sent; state = Live } in
    elim h [
      | inl k ↦ (let n = picked_noted b m k.0 (node r t) e (suc at) (node r t') (record { machine = refl; made = k.1 }) in (n.chosen, n.balance))
      | inr k ↦ (let n = row_noted b m (node r t) e (suc at) (node r t') (record { machine = refl; made = k }) in (n.chosen, n.balance))
    ]

-- a move of the root's row, where the root then closes it if it ended
pub advanced : {M T : Type 0} (b : Machine M T) (m : Meaning T) (steps : Bool) (r r' : M) (asked sent at : ℕ) (ends : Bool) (t mid : Inputs M) → IsMade b m steps r 0 asked sent t at ends r' mid → IsAdvanced b m steps (node r t) asked sent (node r' (closed_row_if ends mid))
advanced {M} b m steps r r' asked sent at ends t mid h = elim h [
  | inl x ↦
      let C : Bool → Type 0 = λ c. IsAdvanced b m steps (node r t) asked sent (node r' (closed_row_if c mid)) in
      let R : M → Type 0 = λ k. IsAdvanced b m steps (node r t) asked sent (node k mid) in
      let S : M → Type 0 = λ k. IsChanged (IsAskedOver b) (λ n. false) r 0 asked sent t at k mid in
      let same = receiver_same b (λ n. false) r 0 asked sent t at r' mid x.made in
      let made : IsChanged (IsAskedOver b) (λ n. false) r 0 asked sent t at r mid = subst S same x.made in
      let kept = kept_asked b m r asked sent at t mid made in
      subst C (sym x.stays) (subst R (sym same) (record {
        at = at;
        made = inl (can_asked b r asked sent at t mid made, asked_effect b r asked sent at t mid made);
        chosen = kept_chosen b m (node r t) (node r mid) kept;
        balance = λ s k. tree_ask_balanced b r asked sent t at mid s made k;
        alike = tree_alike b r r t mid (λ a. made_alike b m steps r 0 asked sent t at false r mid (inl (record { made = made; stays = refl })) a) (reads_made b m steps r 0 asked sent t at false r mid (inl (record { made = made; stays = refl }))) refl;
      }))
  | inr y ↦ elim y [
    | inl x ↦
        record {
          at = at;
          made = inr (inl (can_sent b m r r' at t mid (x.made 0 0), sent_effect b m r r' at t mid (closed_row_if ends mid) (x.made 0 0) (ap (λ c. closed_row_if c mid) x.ends_is)));
          chosen = chosen_sent b m r r' at t mid (closed_row_if ends mid) ends (x.made 0 0) refl;
          balance = λ s k. tree_send_balanced b m r r' 0 0 t at mid (closed_row_if ends mid) s (x.made 0 0) (ap (λ c. closed_row_if c mid) x.ends_is) k;
          alike = tree_alike b r r' t (closed_row_if ends mid) (λ a. closed_alike b a r' ends mid ∙ made_alike b m steps r 0 asked sent t at ends r' mid (inr (inl x)) a) (reads_closed_if b r r' t mid ends (reads_made b m steps r 0 asked sent t at ends r' mid (inr (inl x)))) (made_crosses b m steps r 0 asked sent t at ends r' mid (inr (inl x)));
        }
    | inr z ↦
        let C : Bool → Type 0 = λ c. IsAdvanced b m steps (node r t) asked sent (node r' (closed_row_if c mid)) in
        let R : M → Type 0 = λ k. IsAdvanced b m steps (node r t) asked sent (node k mid) in
        let both = stepped_chosen b m r asked sent at t mid z.1.made in
        subst C (sym z.1.stays) (subst R (sym z.1.receiver) (record {
          at = at;
          made = inr (inr (z.0, record { made = z.1.made; receiver = refl; stays = refl }));
          chosen = both.0;
          balance = both.1;
          alike = tree_alike b r r t mid (λ a. made_alike b m steps r 0 asked sent t at false r mid (inr (inr (z.0, record { made = z.1.made; receiver = refl; stays = refl }))) a) (reads_made b m steps r 0 asked sent t at false r mid (inr (inr (z.0, record { made = z.1.made; receiver = refl; stays = refl })))) refl;
        }))
  ]
]

pub tree_run : {M T : Type 0} (b : Machine M T) (m : Meaning T) (steps : Bool) (k asked sent : ℕ) (r r' : M) (t t' : Inputs M) → IsRowRun b m steps k 0 asked sent r t r' t' → IsDriven b m steps k (node r t) asked sent (node r' t')
tree_run {M} b m steps k asked sent r r' t t' h =
    leads_by_lift (IsRowStep b m steps 0 asked sent) (λ (x y : Node M). IsAdvanced b m steps x asked sent y) (λ (x : M × Inputs M). node x.0 x.1) (λ x y s. advanced b m steps x.0 y.0 asked sent s.0 false x.1 y.1 s.1) k (r, t) (r', t') h

pub tree_driven : {M T : Type 0} (b : Machine M T) (m : Meaning T) (steps : Bool) (k : ℕ) (over : Bool) (asked sent : ℕ) (r r' : M) (t t' : Inputs M) → IsRowDriven b m steps k over 0 asked sent r t r' t' → IsDriven b m steps k (node r t) asked sent (node r' (closed_row_if over t'))
tree_driven b m steps k false asked sent r r' t t' h = tree_run b m steps k asked sent r r' t t' h
tree_driven {M} b m steps k true asked sent r r' t t' h =
    let Q : ℕ → Type 0 = λ j. IsDriven b m steps j (node r t) asked sent (node r' (closed_row_if true t')) in
    subst Q (sym h.count) (leads_by_on (λ (u v : Node M). IsAdvanced b m steps u asked sent v) h.before 1 (node r t) (node h.r1 h.t1) (node r' (closed_row_if true t')) (tree_run b m steps h.before asked sent r h.r1 t h.t1 h.run) (node r' (closed_row_if true t'), advanced b m steps h.r1 r' asked sent h.at true h.t1 t' h.last, refl))

none_chosen : {M T : Type 0} (b : Machine M T) (m : Meaning T) (x : Node M) → IsChosen b m x x
none_chosen b m x = kept_chosen b m x x (record { value = λ hubs further at. refl; notes = refl })

pub chosen_run : {M T : Type 0} (b : Machine M T) (m : Meaning T) (steps : Bool) (k : ℕ) (x y : Node M) (asked sent : ℕ) → IsDriven b m steps k x asked sent y → IsChosen b m x y
chosen_run {M} b m steps k x y asked sent h = leads_by_keep (λ (u v : Node M). IsAdvanced b m steps u asked sent v) (λ t. IsChosen b m x t) (λ u v s was. chosen_then b m x u v was s.chosen) k x y h (none_chosen b m x)

pub balance_run : {M T : Type 0} (b : Machine M T) (m : Meaning T) (steps : Bool) (k : ℕ) (x y : Node M) (asked sent : ℕ) → IsDriven b m steps k x asked sent y → (s : ℕ) → IsBalanced b x s → IsBalanced b y s
balance_run {M} b m steps k x y asked sent h s w = leads_by_keep (λ (u v : Node M). IsAdvanced b m steps u asked sent v) (λ t. IsBalanced b t s) (λ u v a was. a.balance s was) k x y h w

pub tree_begun : {M T : Type 0} (b : Machine M T) (m : Meaning T) (steps : Bool) (x : Node M) (asked sent budget : ℕ) → IsTreeUnderWay b m steps x asked sent budget budget x
tree_begun b m steps x asked sent budget = record { count = 0; spent = omega arith; run = refl; chosen = none_chosen b m x; balance = λ s k. k }

pub tree_under_way : {M T : Type 0} (b : Machine M T) (m : Meaning T) (steps : Bool) (x : Node M) (asked sent budget left left' k : ℕ) (over : Bool) (r r' : M) (t now new : Inputs M) →
    IsTreeUnderWay b m steps x asked sent budget left (node r t) → k + left' ≡ left → IsRowDriven b m steps k over 0 asked sent r t r' now → new ≡ closed_row_if over now → IsTreeUnderWay b m steps x asked sent budget left' (node r' new)
tree_under_way {M} b m steps x asked sent budget left left' k over r r' t now new u spent h shut =
    let Q : Inputs M → Type 0 = λ z. IsDriven b m steps (u.count + k) x asked sent (node r' z) in
    let run : IsDriven b m steps (u.count + k) x asked sent (node r' new) = subst Q (sym shut) (leads_by_on (λ (u v : Node M). IsAdvanced b m steps u asked sent v) u.count k x (node r t) (node r' (closed_row_if over now)) u.run (tree_driven b m steps k over asked sent r r' t now h)) in
    record { count = u.count + k; spent = let q = u.spent in omega (arith, q, spent); run = run; chosen = chosen_run b m steps (u.count + k) x (node r' new) asked sent run; balance = balance_run b m steps (u.count + k) x (node r' new) asked sent run }

-- a pass that made no move found none
pub idle_after : {M T : Type 0} (b : Machine M T) (m : Meaning T) (steps : Bool) (k : ℕ) (over : Bool) (asked sent : ℕ) (r r' : M) (t now new : Inputs M) → k ≡ 0 → IsRowDriven b m steps k over 0 asked sent r t r' now → new ≡ closed_row_if over now → IsRowIdle b m r' 0 asked sent now → IsIdle b m (node r' new) asked sent
idle_after {M} b m steps k over asked sent r r' t now new none h shut idle =
    let z = nothing_done b m steps k over 0 asked sent r r' t now none h in
    let Q : Inputs M → Type 0 = λ u. IsIdle b m (node r' u) asked sent in
    subst Q (sym (shut ∙ ap (λ c. closed_row_if c now) z.0)) (idle_tree b m r' now asked sent idle)

pub none_left : (k : ℕ) → nat_eq k 0 ≡ true → 0 < k → ⊥
none_left k e some = both_ways (nat_eq k 0) (not_zero k some) e

pub pass_same : (k left : ℕ) → (nat_eq k left || nat_eq k 0) ≡ true → 0 < k → k ≡ left
pass_same k left e some = grind (arith, nat_tests)

-- ---- looks

pub row_tree : {M : Type 0} (Q : Inputs M → Type 0) (t : Inputs M) (e : Edge) (n : M) (below beside : Rest M) → t ≡ More e n below beside → Q (More e n below beside) → Q t
row_tree Q t e n below beside is h = subst Q (sym is) h
