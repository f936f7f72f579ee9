-- How an item is pulled through a row of inputs and through a tree.
use Rattle.std.proofs.Common.{◌≡◌, ℕ, ◌+◌, ◌-◌, ◌<◌, true, false, ◌&&◌, refl, ap, sym, ◌∙◌, subst, arith, inl, inr, Option, Some, None, option_map}
use Rattle.std.specs.Box.{with_value}
use Rattle.rsx_sources.specs.Prelude.{Meaning, Next, front_of, IsTakenIn}
use Rattle.rsx_sources.specs.declared.machine.Front.TheVariants.{Item as ItemFront}
use Rattle.rsx_sources.specs.declared.machine.Machine.{Ghosts as Machine}
use Rattle.rsx_tree.specs.declared.edge.Edge.{Edge}
use Rattle.rsx_tree.specs.declared.fetch.Handed.TheVariants.{Item, Kept, Back}
use Rattle.rsx_tree.specs.declared.fetch.Pulled.{Pulled}
use Rattle.rsx_tree.specs.declared.fetch.Pulled.TheVariants.{Item as AnItem, Moved, Nothing}
use Rattle.rsx_tree.specs.declared.inputs.Inputs.{Inputs, More'}
use Rattle.rsx_tree.specs.declared.inputs.Inputs.TheViews.{More}
use Rattle.rsx_tree.specs.Edges.{edge_view, can_pass, is_live, passed}
use Rattle.rsx_tree.specs.Inputs.{closed_row_if, size, can_go}
use Rattle.rsx_tree.specs.Allocates.{IsNodeAlike}
use Rattle.rsx_tree.specs.Changed.{Hold, IsSentOver}
use Rattle.rsx_tree.specs.Driven.{IsRowRun, IsRowStep}
use Rattle.rsx_tree.specs.Fetched.{IsOut, IsHanded, IsPulled, IsRunOver, IsRowFetched, IsLed, IsFetched, IsRootStep, IsRootStepOut, IsStepOut}
use Rattle.rsx_tree.proofs.Alike.{driven_alike, picked, row_made, tree_stepped_alike}
use Rattle.rsx_tree.proofs.Changes.{Rest}
use Rattle.rsx_tree.specs.Stepped.{IsPickedHere, IsRowMadeHere, IsStepOf, IsStepOver, IsSteppedAt}
use Rattle.rsx_tree.proofs.Drives.{IsUnderWay, under_way_sent, step_here, run_below, run_beside, tree_run, chosen_run, balance_run, size_run}
use Rattle.rsx_tree.proofs.Noted.{picked_effect, picked_enabled, picked_noted, row_effect, row_enabled, row_noted}
use Rattle.rsx_tree.proofs.Runs.{leads_by_on}
use Rattle.rsx_tree.proofs.Popped.{item_out}
use Rattle.rsx_tree.proofs.Trees.{node}

-- ---- one edge

-- an item that a sender let go and its receiver took in went over the edge between them
pub sent_over : {M T : Type 0} (b : Machine M T) (m : Meaning T) (r : M) (i : ℕ) (e : Edge) (n r' : M) (e' : Edge) (n' : M) (x : T) → IsOut b m n x n' → IsTakenIn (b.comes_out m) b.takes b.recorded b.counted b.ended b.done r i (Next x) r' → IsNodeAlike b r r' →
    can_pass (edge_view e) ItemFront ≡ true → edge_view e' ≡ passed (edge_view e) ItemFront → (asked sent : ℕ) → IsSentOver b m r i asked sent e n r' e' n'
sent_over b m r i e n r' e' n' x out taken alike can carried asked sent = record {
  signal = Next x;
  can = ap (λ o. can_go (b.takes r i) (edge_view e) (option_map front_of o)) out.waited ∙ (ap (λ c. c && can_pass (edge_view e) ItemFront) taken.enabled ∙ can);
  offered = out.waited;
  popped = out.popped;
  note = out.note;
  noting = out.noting;
  ready = out.ready;
  noted = out.noted;
  gone = out.value;
  taken = taken.value;
  edge = carried;
  receiver = taken.notes;
  sender = out.notes;
  counts_in = taken.counts;
  counts_out = out.counts;
  alike_in = alike;
  alike_out = out.alike;
}

-- ---- the loop over an edge

pub size_under_way : {M T : Type 0} (b : Machine M T) (m : Meaning T) (i asked sent budget : ℕ) (r0 : M) (t0 : Inputs M) (left : ℕ) (r : M) (t : Inputs M) → IsUnderWay b m true i asked sent budget r0 t0 left r t → size t ≡ size t0
size_under_way b m i asked sent budget r0 t0 left r t u = size_run b m true u.count i asked sent r0 r t0 t u.run

-- the row below the edge is smaller than the whole
pub below_smaller : {M T : Type 0} (b : Machine M T) (m : Meaning T) (i asked sent budget : ℕ) (r0 : M) (t0 : Inputs M) (left : ℕ) (r : M) (e : Edge) (n : M) (below beside : Rest M) → IsUnderWay b m true i asked sent budget r0 t0 left r (More e n below beside) → size below.value < size t0
below_smaller b m i asked sent budget r0 t0 left r e n below beside u =
    let whole : size below.value + size beside.value + 1 ≡ size t0 = size_under_way b m i asked sent budget r0 t0 left r (More e n below beside) u in
    omega (arith, whole)

-- what was done where no item came of it
pub fetched_none : {M T : Type 0} (b : Machine M T) (m : Meaning T) (i asked sent budget : ℕ) (r0 : M) (t0 : Inputs M) (left : ℕ) (r : M) (t : Inputs M) → IsUnderWay b m true i asked sent budget r0 t0 left r t → IsRowFetched b m budget i asked sent r0 t0 None left r t
fetched_none b m i asked sent budget r0 t0 left r t u = (u.count, u.spent, u.run)

-- moves of the edge's sender and below it
pub run_over : {M T : Type 0} (b : Machine M T) (m : Meaning T) (i asked sent budget left left' k : ℕ) (r0 : M) (t0 : Inputs M) (r : M) (e : Edge) (n n' : M) (below beside : Rest M) (was now : Inputs M) →
    IsUnderWay b m true i asked sent budget r0 t0 left r (More e n below beside) → was ≡ below.value → k + left' ≡ left → IsRunOver b m k e n was n' now →
    IsUnderWay b m true i asked sent budget r0 t0 left' r (More e n' (with_value below now) beside)
run_over {M} b m i asked sent budget left left' k r0 t0 r e n n' below beside was now u at spent h =
    let P : Hold = record { ptr = below.ptr; alloc = below.alloc; value = tt } in
    let Q : Hold = record { ptr = beside.ptr; alloc = beside.alloc; value = tt } in
    let W : Inputs M → Type 0 = λ x. IsRowRun b m true k i asked sent r (More' e n P x Q beside.value) r (More' e n' P now Q beside.value) in
    record {
      count = u.count + k;
      spent = let q = u.spent in omega (arith, q, spent);
      run = leads_by_on (IsRowStep b m true i asked sent) u.count k (r0, t0) (r, (More e n below beside)) (r, (More e n' (with_value below now) beside)) u.run (subst W at (h r i asked sent P Q beside.value));
    }

under_way_handed : {M T : Type 0} (b : Machine M T) (m : Meaning T) (i asked sent budget left left' : ℕ) (r0 : M) (t0 : Inputs M) (r r' : M) (e e' : Edge) (n n' : M) (below beside : Rest M) →
    IsUnderWay b m true i asked sent budget r0 t0 left r (More e n below beside) → left' + 1 ≡ left → ((a s : ℕ) → IsSentOver b m r i a s e n r' e' n') → b.ended r' ≡ false → IsUnderWay b m true i asked sent budget r0 t0 left' r' (More e' n' below beside)
under_way_handed b m i asked sent budget left left' r0 t0 r r' e e' n n' below beside u one h o =
    let some : 0 < left = omega (arith, one) in
    let same : left - 1 ≡ left' = omega (arith, one) in
    let Q : ℕ → Type 0 = λ k. IsUnderWay b m true i asked sent budget r0 t0 k r' (More e' n' below beside) in
    subst Q same (under_way_sent b m true i asked sent budget left r0 t0 r r' e e' n n' below beside u some h o)

-- it went over the edge, and an item went out of the receiver
pub handed_item : {M T : Type 0} (b : Machine M T) (m : Meaning T) (i asked sent budget left left' : ℕ) (r0 : M) (t0 : Inputs M) (r r' : M) (e e' : Edge) (n n' : M) (below beside : Rest M) (x : T) →
    IsUnderWay b m true i asked sent budget r0 t0 left r (More e n below beside) → IsHanded b m left i r e n (Item x) left' r' e' n' → IsRowFetched b m budget i asked sent r0 t0 (Some x) left' r' (More e' n' below beside)
handed_item b m i asked sent budget left left' r0 t0 r r' e e' n n' below beside x u h =
    let v = under_way_handed b m i asked sent budget left left' r0 t0 r h.0 e e' n n' below beside u h.1 h.2 h.3 in
    (v.count, h.0, v.spent, v.run, h.4)

pub handed_kept : {M T : Type 0} (b : Machine M T) (m : Meaning T) (i asked sent budget left left' : ℕ) (r0 : M) (t0 : Inputs M) (r r' : M) (e e' : Edge) (n n' : M) (below beside : Rest M) →
    IsUnderWay b m true i asked sent budget r0 t0 left r (More e n below beside) → IsHanded b m left i r e n Kept left' r' e' n' → IsUnderWay b m true i asked sent budget r0 t0 left' r' (More e' n' below beside)
handed_kept b m i asked sent budget left left' r0 t0 r r' e e' n n' below beside u h = under_way_handed b m i asked sent budget left left' r0 t0 r r' e e' n n' below beside u h.0 h.1 h.2

pub handed_back : {M T : Type 0} (b : Machine M T) (m : Meaning T) (i asked sent budget left left' : ℕ) (r0 : M) (t0 : Inputs M) (r r' : M) (e e' : Edge) (n n' : M) (below beside : Rest M) →
    IsUnderWay b m true i asked sent budget r0 t0 left r (More e n below beside) → IsHanded b m left i r e n Back left' r' e' n' → IsUnderWay b m true i asked sent budget r0 t0 left' r' (More e' n' below beside)
handed_back {M} b m i asked sent budget left left' r0 t0 r r' e e' n n' below beside u h =
    let L : ℕ → Type 0 = λ k. IsUnderWay b m true i asked sent budget r0 t0 k r (More e n below beside) in
    let R : M → Type 0 = λ k. IsUnderWay b m true i asked sent budget r0 t0 left' k (More e n below beside) in
    let E : Edge → Type 0 = λ k. IsUnderWay b m true i asked sent budget r0 t0 left' r' (More k n below beside) in
    let N : M → Type 0 = λ k. IsUnderWay b m true i asked sent budget r0 t0 left' r' (More e' k below beside) in
    subst N (sym h.3) (subst E (sym h.2) (subst R (sym h.1) (subst L (sym h.0) u)))

-- ---- the way to an item of a sender

-- a step of it was made
pub pulled_step : {M T : Type 0} (b : Machine M T) (m : Meaning T) (budget : ℕ) (e : Edge) (n n1 n' : M) (below was below' : Inputs M) → 0 < budget → n1 ≡ n → was ≡ below → IsStepOver (IsStepOf b m) b.ended e n1 was n' below' → IsPulled b m budget e n below Moved (budget - 1) n' below'
pulled_step {M} b m budget e n n1 n' below was below' some same at h =
    let N : M → Type 0 = λ k. IsPulled b m budget e k below Moved (budget - 1) n' below' in
    let W : Inputs M → Type 0 = λ k. IsPulled b m budget e n1 k Moved (budget - 1) n' below' in
    subst N same (subst W at (
      1,
      omega (arith, some),
      omega (arith, some),
      λ r i asked sent p q beside. ((r, More' e n' p below' q beside), (0, step_here b m i asked sent r e n1 n' was below' h p q beside), refl),
    ))

-- a step of it was made, and the item that then waited went out
pub pulled_step_out : {M T : Type 0} (b : Machine M T) (m : Meaning T) (budget : ℕ) (e : Edge) (n n1 n' : M) (below below' : Inputs M) (x : T) → 0 < budget → n1 ≡ n → IsStepOut b m e n1 below (Some x) n' below' → IsPulled b m budget e n below (AnItem x) (budget - 1) n' below'
pulled_step_out {M} b m budget e n n1 n' below below' x some same h =
    let N : M → Type 0 = λ k. IsPulled b m budget e k below (AnItem x) (budget - 1) n' below' in
    subst N same (
      1,
      h.0,
      omega (arith, some),
      λ r i asked sent p q beside. ((r, More' e h.0 p below' q beside), (0, step_here b m i asked sent r e n1 h.0 below below' h.1 p q beside), refl),
      h.2,
    )

-- a run below it led to an item
pub pulled_from : {M T : Type 0} (b : Machine M T) (m : Meaning T) (budget left : ℕ) (e : Edge) (n n1 n' : M) (below was now : Inputs M) (r : Pulled T) → n1 ≡ n → was ≡ below → IsPulled b m budget e n1 was r left n' now → IsPulled b m budget e n below r left n' now
pulled_from {M} b m budget left e n n1 n' below was now r same at h =
    let N : M → Type 0 = λ k. IsPulled b m budget e k below r left n' now in
    let W : Inputs M → Type 0 = λ k. IsPulled b m budget e n1 k r left n' now in
    subst N same (subst W at h)

pub pulled_item : {M T : Type 0} (b : Machine M T) (m : Meaning T) (budget left : ℕ) (e : Edge) (n n1 n' : M) (below was now : Inputs M) (x : T) → n1 ≡ n → was ≡ below → IsRowFetched b m budget 0 e.demand.asked e.demand.sent n1 was (Some x) left n' now → IsPulled b m budget e n below (AnItem x) left n' now
pulled_item {M} b m budget left e n n1 n' below was now x same at h =
    let N : M → Type 0 = λ k. IsPulled b m budget e k below (AnItem x) left n' now in
    let W : Inputs M → Type 0 = λ k. IsPulled b m budget e n1 k (AnItem x) left n' now in
    subst N same (subst W at (h.0, h.1, h.2, λ r i asked sent p q beside. run_below b m true h.0 i asked sent r e n1 h.1 p was now q beside h.3, h.4))

-- it led to none
pub pulled_run : {M T : Type 0} (b : Machine M T) (m : Meaning T) (budget left : ℕ) (e : Edge) (n n1 n' : M) (below was now : Inputs M) → n1 ≡ n → was ≡ below → IsRowFetched b m budget 0 e.demand.asked e.demand.sent n1 was None left n' now → IsPulled b m budget e n below Nothing left n' now
pulled_run {M} b m budget left e n n1 n' below was now same at h =
    let N : M → Type 0 = λ k. IsPulled b m budget e k below Nothing left n' now in
    let W : Inputs M → Type 0 = λ k. IsPulled b m budget e n1 k Nothing left n' now in
    subst N same (subst W at (h.0, h.1, λ r i asked sent p q beside. run_below b m true h.0 i asked sent r e n1 n' p was now q beside h.2))

pub pulled_moved : {M T : Type 0} (b : Machine M T) (m : Meaning T) (budget left : ℕ) (e : Edge) (n n' : M) (below now : Inputs M) → (left ≡ budget → ⊥) → IsPulled b m budget e n below Nothing left n' now → IsPulled b m budget e n below Moved left n' now
pulled_moved b m budget left e n n' below now other h = let q = h.1 in (h.0, h.1, omega (arith, other, q), h.2)

-- ---- a row

-- a run that came upon no item, and then another
pub fetched_then : {M T : Type 0} (b : Machine M T) (m : Meaning T) (i asked sent budget left left' : ℕ) (r r1 r' : M) (t t1 t' : Inputs M) (o : Option T) →
    IsRowFetched b m budget i asked sent r t None left r1 t1 → IsRowFetched b m left i asked sent r1 t1 o left' r' t' → IsRowFetched b m budget i asked sent r t o left' r' t'
fetched_then b m i asked sent budget left left' r r1 r' t t1 t' (Some x) h k =
    let a = h.1 in
    let c = k.2 in
    (h.0 + k.0, k.1, omega (arith, a, c), leads_by_on (IsRowStep b m true i asked sent) h.0 k.0 (r, t) (r1, t1) (k.1, t') h.2 k.3, k.4)
fetched_then b m i asked sent budget left left' r r1 r' t t1 t' None h k =
    let a = h.1 in
    let c = k.1 in
    (h.0 + k.0, omega (arith, a, c), leads_by_on (IsRowStep b m true i asked sent) h.0 k.0 (r, t) (r1, t1) (r', t') h.2 k.2)

-- a run of the inputs beside the first
pub fetched_beside : {M T : Type 0} (b : Machine M T) (m : Meaning T) (i next asked sent budget left : ℕ) (r r' : M) (e : Edge) (n : M) (below beside : Rest M) (was now : Inputs M) (o : Option T) →
    next ≡ i + 1 → was ≡ beside.value → IsRowFetched b m budget next asked sent r was o left r' now → IsRowFetched b m budget i asked sent r (More e n below beside) o left r' (More e n below (with_value beside now))
fetched_beside {M} b m i next asked sent budget left r r' e n below beside was now (Some x) up at h =
    let P : Hold = record { ptr = below.ptr; alloc = below.alloc; value = tt } in
    let Q : Hold = record { ptr = beside.ptr; alloc = beside.alloc; value = tt } in
    let I : ℕ → Type 0 = λ j. IsRowRun b m true h.0 j asked sent r was h.1 now in
    let W : Inputs M → Type 0 = λ x. IsRowRun b m true h.0 (i + 1) asked sent r x h.1 now in
    (h.0, h.1, h.2, run_beside b m true h.0 i asked sent r h.1 e n P below.value Q beside.value now (subst W at (subst I up h.3)), h.4)
fetched_beside {M} b m i next asked sent budget left r r' e n below beside was now None up at h =
    let P : Hold = record { ptr = below.ptr; alloc = below.alloc; value = tt } in
    let Q : Hold = record { ptr = beside.ptr; alloc = beside.alloc; value = tt } in
    let I : ℕ → Type 0 = λ j. IsRowRun b m true h.0 j asked sent r was r' now in
    let W : Inputs M → Type 0 = λ x. IsRowRun b m true h.0 (i + 1) asked sent r x r' now in
    (h.0, h.1, run_beside b m true h.0 i asked sent r r' e n P below.value Q beside.value now (subst W at (subst I up h.2)))

-- ---- a tree

led : {M T : Type 0} (b : Machine M T) (m : Meaning T) (k asked sent budget left : ℕ) (r r' : M) (t t' : Inputs M) → k + left ≡ budget → IsRowRun b m true k 0 asked sent r t r' t' → IsLed b m budget (node r t) asked sent left (node r' t')
led b m k asked sent budget left r r' t t' spent h =
    let run = tree_run b m true k asked sent r r' t t' h in
    record { count = k; spent = spent; run = run; chosen = chosen_run b m true k (node r t) (node r' t') asked sent run; balance = balance_run b m true k (node r t) (node r' t') asked sent run; alike = driven_alike b m true k (node r t) asked sent (node r' t') run }

-- the root offered an item already
pub fetched_at_once : {M T : Type 0} (b : Machine M T) (m : Meaning T) (asked sent budget : ℕ) (r r' : M) (t : Inputs M) (x : T) → IsOut b m r x r' → IsFetched b m budget (node r t) asked sent (Some x) budget (node r' t)
fetched_at_once b m asked sent budget r r' t x h = (node r t, led b m 0 asked sent budget budget r r t t (omega arith) refl, item_out b m r r' t x h)

pub fetched_tree : {M T : Type 0} (b : Machine M T) (m : Meaning T) (asked sent budget left : ℕ) (r0 r r' : M) (t t' : Inputs M) (o : Option T) → r ≡ r0 → IsRowFetched b m budget 0 asked sent r t o left r' t' → IsFetched b m budget (node r0 t) asked sent o left (node r' t')
fetched_tree {M} b m asked sent budget left r0 r r' t t' (Some x) same h =
    let R : M → Type 0 = λ k. IsLed b m budget (node k t) asked sent left (node h.1 t') in
    (node h.1 t', subst R same (led b m h.0 asked sent budget left r h.1 t t' h.2 h.3), item_out b m h.1 r' t' x h.4)
fetched_tree {M} b m asked sent budget left r0 r r' t t' None same h =
    let R : M → Type 0 = λ k. IsLed b m budget (node k t) asked sent left (node r' t') in
    subst R same (led b m h.0 asked sent budget left r r' t t' h.1 h.2)

-- ---- a step of the root

step_of_root : {M T : Type 0} (b : Machine M T) (m : Meaning T) (n mid : M) (t t' : Inputs M) (e : Edge) → is_live e.state ≡ true → IsStepOf b m n e.demand.asked e.demand.sent mid → t' ≡ closed_row_if (b.ended mid && true) t → IsRootStep b m (node n t) (edge_view e) (node mid t')
step_of_root b m n mid t t' e live (inl p) shut =
    let made : IsSteppedAt (IsPickedHere b m p.0) b.ended (node n t) (edge_view e) 0 (node mid t') = record { live = live; made = p.1; inputs = shut } in
    let noted = picked_noted b m p.0 (node n t) (edge_view e) 0 (node mid t') made in
    record {
      step = inl (p.0, record { enabled = picked_enabled b m p.0 (node n t) (edge_view e) 0 (node mid t') made; made = made; effect = picked_effect b m p.0 (node n t) (edge_view e) 0 (node mid t') made });
      chosen = noted.chosen;
      balance = noted.balance;
      alike = tree_stepped_alike b (IsPickedHere b m p.0) (picked b m p.0) b.ended (node n t) (edge_view e) 0 (node mid t') made;
    }
step_of_root b m n mid t t' e live (inr r) shut =
    let made : IsSteppedAt (IsRowMadeHere b m) b.ended (node n t) (edge_view e) 0 (node mid t') = record { live = live; made = r; inputs = shut } in
    let noted = row_noted b m (node n t) (edge_view e) 0 (node mid t') made in
    record {
      step = inr (record { enabled = row_enabled b m (node n t) (edge_view e) 0 (node mid t') made; made = made; effect = row_effect b m (node n t) (edge_view e) 0 (node mid t') made });
      chosen = noted.chosen;
      balance = noted.balance;
      alike = tree_stepped_alike b (IsRowMadeHere b m) (row_made b m) b.ended (node n t) (edge_view e) 0 (node mid t') made;
    }

-- what a step over the root's edge answered
pub root_step_out : {M T : Type 0} (b : Machine M T) (m : Meaning T) (n n' : M) (t t' : Inputs M) (e : Edge) (o : Option T) → IsStepOut b m e n t o n' t' → IsRootStepOut b m (node n t) (edge_view e) o (node n' t')
root_step_out b m n n' t t' e (Some x) h = let s = h.1 in (node h.0 t', step_of_root b m n h.0 t t' e s.live s.made s.shut, item_out b m h.0 n' t' x h.2)
root_step_out {M} b m n n' t t' e None h =
    let P : M → Type 0 = λ k. node k t' ≡ node n t in
    subst P (sym h.0) (ap (node n) h.1)
