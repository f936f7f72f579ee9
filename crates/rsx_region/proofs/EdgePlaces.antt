-- The edge of a part with a number, whose node is put in another one's place.
use Rattle.std.proofs.Common.{◌≡◌, inl, inr, ℕ, zero, suc, ◌+◌, ◌-◌, ◌<◌, ◌≤◌, Bool, true, false, ◌&&◌, nat_eq, nat_le, refl, ap, sym, ◌∙◌, arith, Option, Some, None, option_map}
use Rattle.std.specs.Prelude.{not}
use Rattle.std.proofs.lemmas.Bool.{and_parts, cases_lt, le-leb, lt-leb}
use Rattle.rsx_types.proofs.Numbers.{not_zero}
use Rattle.rsx_sources.specs.declared.machine.Machine.{Ghosts as Machine}
use Rattle.rsx_tree.proofs.Changes.{chosen_first, chosen_second}
use Rattle.rsx_tree.specs.Edges.{edge_view, is_live}
use Rattle.rsx_tree.specs.Inputs.{size}
use Rattle.rsx_tree.specs.Stepped.{Station, over, station, station_of}
use Rattle.rsx_tree.specs.Swapped.{with_sender}
use Rattle.rsx_tree.specs.declared.inputs.Inputs.{Inputs, End, More'}
use Rattle.rsx_tree.specs.declared.node.Node.{Node}
use Rattle.rsx_pipe.proofs.Cuts.{sender_put}
use Rattle.rsx_pipe.specs.Cutting.{place_at, sender_at, with_node}
use Rattle.rsx_pipe.specs.Part.{Part}
use Rattle.rsx_region.specs.Joined.{sent_over_edge}
use Rattle.rsx_region.specs.Open.{is_live_over, is_open_over, is_row_live, is_row_open}

-- ---- tests

pub same_some : {A : Type 0} (x y : A) → Some x ≡ Some y → x ≡ y
same_some x y h = cc

pub is_false : (c : Bool) → not c ≡ true → c ≡ false
is_false true h = cc
is_false false h = refl

pub both : (c d : Bool) → c ≡ true → d ≡ true → c && d ≡ true
both true d x y = y
both false d x y = cc

pub not_from : (c : Bool) → c ≡ false → not c ≡ true
not_from true h = cc
not_from false h = refl

pub mapped : {A B : Type 0} (f : A → B) (o : Option A) (y : B) → option_map f o ≡ Some y → (x : A) × (o ≡ Some x) × (f x ≡ y)
mapped f None y h = cc
mapped f (Some x) y h = (x, refl, cc)

-- ---- an edge of a row

module _ {M : Type 0} (at : ℕ) (e : _) (n : M) (p q : _) (below beside : Inputs M) where
  pub station_here : at ≡ 0 → station (More' e n p below q beside) at ≡ Some (over e n)
  station_here h = ap (station (More' e n p below q beside)) h

  pub station_below : 0 < at → at ≤ size below → station (More' e n p below q beside) at ≡ station below (at - 1)
  station_below a w = chosen_second (nat_eq at 0) _ _ (not_zero at a) ∙ chosen_first (nat_le at (size below)) _ _ (le-leb at (size below) w)

  pub station_beside : size below < at → station (More' e n p below q beside) at ≡ station beside (at - 1 - size below)
  station_beside w = chosen_second (nat_eq at 0) _ _ (not_zero at (omega (arith, w))) ∙ chosen_second (nat_le at (size below)) _ _ (lt-leb at (size below) w)

  pub live_here : at ≡ 0 → is_row_live (More' e n p below q beside) at ≡ is_live e.state
  live_here h = ap (is_row_live (More' e n p below q beside)) h

  pub live_below : 0 < at → at ≤ size below → is_row_live (More' e n p below q beside) at ≡ (is_live e.state && is_row_live below (at - 1))
  live_below a w = chosen_second (nat_eq at 0) _ _ (not_zero at a) ∙ chosen_first (nat_le at (size below)) _ _ (le-leb at (size below) w)

  pub live_beside : size below < at → is_row_live (More' e n p below q beside) at ≡ is_row_live beside (at - 1 - size below)
  live_beside w = chosen_second (nat_eq at 0) _ _ (not_zero at (omega (arith, w))) ∙ chosen_second (nat_le at (size below)) _ _ (lt-leb at (size below) w)

  pub sender_here : at ≡ 0 → sender_at at (More' e n p below q beside) ≡ Some (record { node = n; below = below })
  sender_here h = ap (λ k. sender_at k (More' e n p below q beside)) h

  pub sender_below : 0 < at → at ≤ size below → sender_at at (More' e n p below q beside) ≡ sender_at (at - 1) below
  sender_below a w = chosen_second (nat_eq at 0) _ _ (not_zero at a) ∙ chosen_first (nat_le at (size below)) _ _ (le-leb at (size below) w)

  pub sender_beside : size below < at → sender_at at (More' e n p below q beside) ≡ sender_at (at - 1 - size below) beside
  sender_beside w = chosen_second (nat_eq at 0) _ _ (not_zero at (omega (arith, w))) ∙ chosen_second (nat_le at (size below)) _ _ (lt-leb at (size below) w)

  pub open_here : {T : Type 0} (b : Machine M T) (r : M) (i : ℕ) → at ≡ 0 → is_row_open b r i (More' e n p below q beside) at ≡ not (b.done r i)
  open_here b r i h = ap (is_row_open b r i (More' e n p below q beside)) h

  pub open_below : {T : Type 0} (b : Machine M T) (r : M) (i : ℕ) → 0 < at → at ≤ size below → is_row_open b r i (More' e n p below q beside) at ≡ (not (b.done r i) && (not (b.ended n) && is_row_open b n 0 below (at - 1)))
  open_below b r i a w = chosen_second (nat_eq at 0) _ _ (not_zero at a) ∙ chosen_first (nat_le at (size below)) _ _ (le-leb at (size below) w)

  pub open_beside : {T : Type 0} (b : Machine M T) (r : M) (i : ℕ) → size below < at → is_row_open b r i (More' e n p below q beside) at ≡ is_row_open b r (i + 1) beside (at - 1 - size below)
  open_beside b r i w = chosen_second (nat_eq at 0) _ _ (not_zero at (omega (arith, w))) ∙ chosen_second (nat_le at (size below)) _ _ (lt-leb at (size below) w)

-- ---- an edge of a part

-- there is such an edge
abbrev pub IsThere : {M : Type 0} → ℕ → Node M → Type 0
IsThere at t = 0 < at → at - 1 < size t.inputs

pub with_here : {M : Type 0} (at : ℕ) (x : M) (xs : Inputs M) (t : Node M) → at ≡ 0 → with_node at x xs t ≡ record { machine = x; inputs = xs }
with_here at x xs t h = ap (λ k. with_node k x xs t) h

pub with_below : {M : Type 0} (at : ℕ) (x : M) (xs : Inputs M) (t : Node M) → 0 < at → with_node at x xs t ≡ with_sender (at - 1) x xs t
with_below at x xs t h = chosen_second (nat_eq at 0) _ _ (not_zero at h)

pub place_here : {M : Type 0} (at : ℕ) (t : Node M) → at ≡ 0 → place_at at t ≡ Some (record { node = t.machine; below = t.inputs })
place_here at t h = ap (λ k. place_at k t) h

pub place_below : {M : Type 0} (at : ℕ) (t : Node M) → 0 < at → place_at at t ≡ sender_at (at - 1) t.inputs
place_below at t h = chosen_second (nat_eq at 0) _ _ (not_zero at h)

pub place_put : {M : Type 0} (at : ℕ) (x : M) (xs : Inputs M) (t : Node M) → IsThere at t → place_at at (with_node at x xs t) ≡ Some (record { node = x; below = xs })
place_put at x xs t there = elim (cases_lt 0 at) [
  | inr z ↦ let here : at ≡ 0 = omega (arith, z) in ap (place_at at) (with_here at x xs t here) ∙ ap (λ k. place_at k (record { machine = x; inputs = xs })) here
  | inl l ↦ ap (place_at at) (with_below at x xs t l) ∙ (place_below at (with_sender (at - 1) x xs t) l ∙ sender_put t.inputs (at - 1) x xs (there l))
]

-- the root as a node over its edge
abbrev pub root_station : {M : Type 0} → Part M → Station M
root_station part = record { machine = part.tree.machine; state = part.root.state; asked = part.root.demand.asked; sent = part.root.demand.sent }

pub station_root : {M : Type 0} (part : Part M) (at : ℕ) → at ≡ 0 → station_of part.tree (edge_view part.root) at ≡ Some (root_station part)
station_root part at h = ap (station_of part.tree (edge_view part.root)) h

pub station_under : {M : Type 0} (part : Part M) (at : ℕ) → 0 < at → station_of part.tree (edge_view part.root) at ≡ station part.tree.inputs (at - 1)
station_under part zero h = absurd (omega (arith, h))
station_under part (suc k) h = ap (station part.tree.inputs) (less k)
  where
    less : (k : ℕ) → k ≡ suc k - 1
    less k = omega arith

pub open_root : {M T : Type 0} (b : Machine M T) (part : Part M) (at : ℕ) → at ≡ 0 → is_open_over b part at ≡ true
open_root b part at h = ap (is_open_over b part) h

pub open_under : {M T : Type 0} (b : Machine M T) (part : Part M) (at : ℕ) → 0 < at → is_open_over b part at ≡ (not (b.ended part.tree.machine) && is_row_open b part.tree.machine 0 part.tree.inputs (at - 1))
open_under b part at h = chosen_second (nat_eq at 0) _ _ (not_zero at h)

pub live_root : {M : Type 0} (part : Part M) (at : ℕ) → at ≡ 0 → is_live part.root.state ≡ true → is_live_over part at ≡ true
live_root part at h live = both (is_live part.root.state) _ live (chosen_first (nat_eq at 0) _ _ (ap (λ k. nat_eq k 0) h))

pub live_under : {M : Type 0} (part : Part M) (at : ℕ) → 0 < at → is_live part.root.state ≡ true → is_row_live part.tree.inputs (at - 1) ≡ true → is_live_over part at ≡ true
live_under part at h live row = both (is_live part.root.state) _ live (chosen_second (nat_eq at 0) _ _ (not_zero at h) ∙ row)

pub row_live_under : {M : Type 0} (part : Part M) (at : ℕ) → 0 < at → is_live_over part at ≡ true → is_row_live part.tree.inputs (at - 1) ≡ true
row_live_under part at h live = sym (chosen_second (nat_eq at 0) _ _ (not_zero at h)) ∙ (and_parts (is_live part.root.state) _ live).1

-- what a row has a station for is in it
row_station_there : {M : Type 0} (t : Inputs M) (at : ℕ) (s : Station M) → station t at ≡ Some s → at < size t
row_station_there End at s h = cc
row_station_there (More' e n p below q beside) at s h = elim (cases_lt 0 at) [
  | inr z ↦ omega (arith, z)
  | inl l ↦ elim (cases_lt (size below) at) [
    | inr w ↦ let rec = row_station_there below (at - 1) s (sym (station_below at e n p q below beside l w) ∙ h) in omega (arith, rec, l)
    | inl w ↦ let rec = row_station_there beside (at - 1 - size below) s (sym (station_beside at e n p q below beside w) ∙ h) in omega (arith, rec, w)
  ]
]

pub station_there : {M : Type 0} (part : Part M) (at : ℕ) (s : Station M) → station_of part.tree (edge_view part.root) at ≡ Some s → IsThere at part.tree
station_there part at s h l = row_station_there part.tree.inputs (at - 1) s (sym (station_under part at l) ∙ h)

-- the node over an edge that counts so much
pub edge_station : {M : Type 0} (part : Part M) (at count : ℕ) → sent_over_edge part at ≡ Some count → (s : Station M) × (station_of part.tree (edge_view part.root) at ≡ Some s) × (s.sent ≡ count)
edge_station part at count h = mapped (λ s. s.sent) (station_of part.tree (edge_view part.root) at) count h
