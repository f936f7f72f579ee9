-- No move goes over an edge that isn't live.
use Rattle.std.proofs.Common.{◌≡◌, ◌⊎◌, inl, inr, ℕ, ◌+◌, ◌-◌, Bool, true, false, ◌&&◌, nat_eq, nat_le, if◌then◌else◌, List, [], ◌∷◌, ◌++◌, refl, ap, ◌∙◌, Option, Some, None, option_map, zero, suc}
use Rattle.std.proofs.lemmas.Bool.{and_parts}
use Rattle.rsx_sources.specs.Prelude.{Meaning, front_of, note_then}
use Rattle.rsx_sources.specs.declared.machine.Front.{Front}
use Rattle.rsx_sources.specs.declared.machine.Front.TheVariants.{Item, Completion, Failure}
use Rattle.rsx_sources.specs.declared.machine.Machine.{Ghosts as Machine}
use Rattle.rsx_tree.specs.declared.edge.EdgeState.{EdgeState}
use Rattle.rsx_tree.specs.declared.edge.EdgeState.TheVariants.{Live, Ended as EdgeEnded, Closed}
use Rattle.rsx_tree.specs.declared.inputs.Inputs.{Inputs, End, More'}
use Rattle.rsx_tree.specs.declared.node.Node.{Node}
use Rattle.rsx_tree.specs.Edges.{EdgeView, can_ask_for, is_live, can_pass}
use Rattle.rsx_tree.specs.Inputs.{Place, place, size, edges, can_go, can_ask_in, can_send_in, tests, wanted_at}
use Rattle.rsx_tree.specs.Tree.{NoneLive, IsAllClosed, can_ask, can_send}
use Rattle.rsx_tree.specs.Stepped.{Station, station, station_of, can_pick_in, can_row_in, IsStepped, IsPickedHere, IsRowMadeHere}
use Rattle.rsx_tree.proofs.Noted.{step_noted, pick_notes, row_notes}

none_left : (es fs : List EdgeView) → NoneLive (es ++ fs) → NoneLive es
none_left [] fs h = tt
none_left (e ∷ es) fs h = (h.0, none_left es fs h.1)

none_right : (es fs : List EdgeView) → NoneLive (es ++ fs) → NoneLive fs
none_right [] fs h = h
none_right (e ∷ es) fs h = none_right es fs h.1

-- where both branches have a property, so has the choice of them
if_both : {A : Type 0} (P : A → Type 0) (c : Bool) (x y : A) → P x → P y → P (if c then x else y)
if_both P true x y p q = p
if_both P false x y p q = q

abbrev state_in : {M : Type 0} → Option (Place M) → EdgeState
state_in None = Closed
state_in (Some p) = p.edge.state

abbrev Shut : {M : Type 0} → Option (Place M) → Type 0
Shut o = state_in o ≡ Live → ⊥

closed_place : {M : Type 0} (r : M) (i asked sent : ℕ) (t : Inputs M) (at : ℕ) → NoneLive (edges t) → Shut (place r i asked sent t at)
closed_place r i asked sent End at h = λ e. never e
  where
    never : Closed ≡ Live → ⊥
    never e = cc
closed_place r i asked sent (More' e n p below q beside) at h =
    if_both Shut (nat_eq at 0) _ _ h.0
    (if_both Shut (nat_le at (size below)) (place n 0 e.demand.asked e.demand.sent below (at - 1)) (place r (i + 1) asked sent beside (at - 1 - size below))
    (closed_place n 0 e.demand.asked e.demand.sent below (at - 1) (none_left (edges below) (edges beside) h.1))
    (closed_place r (i + 1) asked sent beside (at - 1 - size below) (none_right (edges below) (edges beside) h.1)))

live_true : (s : EdgeState) → is_live s ≡ true → s ≡ Live
live_true Live e = refl
live_true EdgeEnded e = cc
live_true Closed e = cc

-- a signal goes over a live edge only
pub pass_live : (e : EdgeView) (f : Front) → can_pass e f ≡ true → e.state ≡ Live
pass_live e Item h = live_true e.state (and_parts (is_live e.state) _ h).0
pass_live e Completion h = live_true e.state h
pass_live e (Failure c) h = live_true e.state h

go_live : (takes : Front → Bool) (e : EdgeView) (o : Option Front) → can_go takes e o ≡ true → e.state ≡ Live
go_live takes e None h = cc
go_live takes e (Some f) h = pass_live e f (and_parts (takes f) (can_pass e f) h).1

ask_live : {M T : Type 0} (b : Machine M T) (o : Option (Place M)) → can_ask_in b o ≡ true → state_in o ≡ Live
ask_live b None h = cc
ask_live b (Some p) h =
    let wants = (and_parts (can_ask_for p.edge (wanted_at b p)) _ h).0 in
    live_true p.edge.state (and_parts (is_live p.edge.state) _ wants).0

send_live : {M T : Type 0} (b : Machine M T) (m : Meaning T) (o : Option (Place M)) → can_send_in b m o ≡ true → state_in o ≡ Live
send_live b m None h = cc
send_live b m (Some p) h = go_live (b.takes p.receiver p.input) p.edge (option_map front_of (b.waiting m p.sender)) h

-- a tree whose edges are all closed has no move
pub ask_not_closed : {M T : Type 0} (b : Machine M T) (t : Node M) (at asked sent : ℕ) → can_ask b t at asked sent ≡ true → IsAllClosed t → ⊥
ask_not_closed b t at asked sent e h = closed_place t.machine 0 asked sent t.inputs at h (ask_live b (place t.machine 0 asked sent t.inputs at) e)

pub send_not_closed : {M T : Type 0} (b : Machine M T) (m : Meaning T) (t : Node M) (at : ℕ) → can_send b m t at ≡ true → IsAllClosed t → ⊥
send_not_closed b m t at e h = closed_place t.machine 0 0 0 t.inputs at h (send_live b m (place t.machine 0 0 0 t.inputs at) e)

-- nor a step of a node below its root
abbrev Dead : {M : Type 0} → Option (Station M) → Type 0
Dead None = Unit {0}
Dead (Some x) = x.state ≡ Live → ⊥

closed_row : {M : Type 0} (t : Inputs M) (at : ℕ) → NoneLive (edges t) → Dead (station t at)
closed_row End at h = tt
closed_row (More' e n p below q beside) at h =
    if_both Dead (nat_eq at 0) _ _ h.0
    (if_both Dead (nat_le at (size below)) (station below (at - 1)) (station beside (at - 1 - size below))
    (closed_row below (at - 1) (none_left (edges below) (edges beside) h.1))
    (closed_row beside (at - 1 - size below) (none_right (edges below) (edges beside) h.1)))

closed_station : {M : Type 0} (t : Inputs M) (at : ℕ) (s : Station M) → NoneLive (edges t) → station t at ≡ Some s → s.state ≡ Live → ⊥
closed_station {M} t at s h is live = found (station t at) (closed_row t at h) is
  where
    found : (o : Option (Station M)) → Dead o → o ≡ Some s → ⊥
    found None d e = cc
    found (Some x) d e = let same : x ≡ s = cc in d (ap (λ k. k.state) same ∙ live)

tested_live : {M : Type 0} (f : Station M → Bool) (o : Option (Station M)) → tests (λ s. is_live s.state && f s) o ≡ true → Dead o → ⊥
tested_live f None h d = cc
tested_live f (Some s) h d = d (live_true s.state (and_parts (is_live s.state) (f s) h).0)

own_or_below : {M : Type 0} (f : Station M → Bool) (t : Node M) (e : EdgeView) (at : ℕ) → tests (λ s. is_live s.state && f s) (station_of t e at) ≡ true → IsAllClosed t → (e.state ≡ Live → ⊥) → ⊥
own_or_below f t e zero h closed dead = tested_live f (station_of t e zero) h dead
own_or_below f t e (suc at) h closed dead = tested_live f (station t.inputs at) h (closed_row t.inputs at closed)

-- where a node can pick or make a row, the root's own edge is live, or one below it
pub pick_alive : {M T : Type 0} (b : Machine M T) (t : Node M) (e : EdgeView) (at input : ℕ) → can_pick_in b input (station_of t e at) ≡ true → IsAllClosed t → (e.state ≡ Live → ⊥) → ⊥
pick_alive b t e at input h closed dead = own_or_below (λ s. b.picks s.machine input s.asked s.sent) t e at h closed dead

pub row_alive : {M T : Type 0} (b : Machine M T) (t : Node M) (e : EdgeView) (at : ℕ) → can_row_in b (station_of t e at) ≡ true → IsAllClosed t → (e.state ≡ Live → ⊥) → ⊥
row_alive b t e at h closed dead = own_or_below (λ s. b.rows s.machine s.asked s.sent) t e at h closed dead

pub step_not_closed : {M T : Type 0} (b : Machine M T) (m : Meaning T) (t : Node M) (at : ℕ) (t' : Inputs M) → ((input : ℕ) × IsStepped (IsPickedHere b m input) b.ended t.inputs at t') ⊎ IsStepped (IsRowMadeHere b m) b.ended t.inputs at t' → IsAllClosed t → ⊥
step_not_closed b m t at t' h closed = elim h [
  | inl k ↦ (let n = step_noted b m (IsPickedHere b m k.0) (λ n l. note_then (b.recording n k.0) l) (λ n l. note_then l (b.recording n k.0)) (pick_notes b m k.0) t.inputs at t' k.1 in closed_station t.inputs at n.there closed n.is (live_true n.there.state n.live))
  | inr k ↦ (let n = step_noted b m (IsRowMadeHere b m) (λ n l. l) (λ n l. l) (row_notes b m) t.inputs at t' k in closed_station t.inputs at n.there closed n.is (live_true n.there.state n.live))
]
