-- How items that are pulled through a tree many at once go over its root edge.
use Rattle.std.proofs.Common.{◌≡◌, ℕ, zero, suc, ◌+◌, ◌-◌, ◌<◌, ◌≤◌, Bool, true, false, ◌&&◌, List, [], ◌∷◌, length, Some, None, refl, ap, sym, ◌∙◌, subst, arith}
use Rattle.rsx_rooted.proofs.OverEdges.{can_item, carried_more, carried_none, one_more, room_is, room_live, same_edge}
use Rattle.rsx_rooted.specs.Items.{IsOutBy, IsRowBatch, carried, room, steps_for}
use Rattle.rsx_sources.specs.Prelude.{Meaning, Next}
use Rattle.rsx_sources.specs.declared.machine.Machine.{Ghosts as Machine}
use Rattle.rsx_tree.proofs.Popped.{unrecorded_out}
use Rattle.rsx_tree.proofs.Fetches.{fetched_tree, root_step_out}
use Rattle.rsx_tree.proofs.Runs.{leads_by_lift, leads_by_on}
use Rattle.rsx_tree.specs.Driven.{IsRowRun}
use Rattle.rsx_tree.specs.Inputs.{closed_row_if}
use Rattle.rsx_tree.specs.Prelude.{edge_view, is_live}
use Rattle.rsx_tree.specs.Runs.{Leads, LeadsBy}
use Rattle.rsx_tree.specs.declared.edge.Edge.{Edge}
use Rattle.rsx_tree.specs.declared.inputs.Inputs.{Inputs}
use Rattle.rsx_rooted.proofs.Fetches.{root_moved, worked_once}
use Rattle.rsx_rooted.proofs.Parts.{driven_inside, pumped_none, pumped_on}
use Rattle.rsx_rooted.proofs.Sends.{sent_out}
use Rattle.rsx_rooted.specs.Feeding.{IsSentOut}
use Rattle.rsx_rooted.specs.Fetched.{AreFed, AreFetched, IsMovedInside, IsWorked}
use Rattle.rsx_rooted.specs.Made.{HasGoneOnBy, IsTried, moves_of}
use Rattle.rsx_rooted.specs.Rooted.{no_room}
use Rattle.rsx_rooted.specs.declared.batch.Noted.{Noted}
use Rattle.rsx_rooted.specs.declared.rooted.Rooted.{Rooted}

abbrev whole : {M : Type 0} → M → Inputs M → Edge → Rooted M
whole r t e = record { tree = record { machine = r; inputs = t }; root = e }

-- ---- each move, one by one

-- so many moves inside the tree, and the Send of the item over the root edge
abbrev IsItemFed : {M T : Type 0} → Machine M T → Meaning T → ℕ → Rooted M → T → ℕ → Rooted M → Type 0
IsItemFed {M} b m budget old x left new = (n : ℕ) × (mid : Rooted M) × ((n + 1) + left ≡ budget) × LeadsBy (IsMovedInside b m) n old mid × IsSentOut b m mid (Next x) new

-- by so many moves, a step of the root among them where it puts the item out by one, and the Send of the item
item_fed : {M T : Type 0} (b : Machine M T) (m : Meaning T) (by : Bool) (first behind budget : ℕ) (r r1 r2 : M) (t t1 : Inputs M) (x : T) (e e1 : Edge) →
    first + steps_for by 1 + 1 + behind ≡ budget → is_live e.state ≡ true → e.demand.sent < e.demand.asked → edge_view e1 ≡ carried (edge_view e) 1 →
    IsRowRun b m true first 0 e.demand.asked e.demand.sent r t r1 t1 → IsOutBy b m by r1 x r2 → IsItemFed b m budget (whole r t e) x behind (whole r2 t1 e1)
item_fed {M} b m false first behind budget r r1 r2 t t1 x e e1 spent live free over run out =
    let all : first + (behind + 1) ≡ budget = omega (arith, spent) in
    let led = fetched_tree b m e.demand.asked e.demand.sent budget (behind + 1) r r r2 t t1 (Some x) refl (first, r1, all, run, unrecorded_out b m r1 r2 x out.0 out.1) in
    let half : Rooted M = record { tree = led.0; root = e } in
    let count = led.1.spent in
    (led.1.count, half, omega (arith, count), driven_inside b m led.1.count e (record { machine = r; inputs = t }) led.0 led.1.run, sent_out b m half (whole r2 t1 e1) (Next x) led.2 (can_item e live free) over)
item_fed {M} b m true first behind budget r r1 r2 t t1 x e e1 spent live free over run out =
    let s = out e.demand.asked e.demand.sent free in
    let stays : t1 ≡ closed_row_if (b.ended s.0 && true) t1 = sym (ap (λ z. closed_row_if (z && true) t1) s.2) in
    let all : first + (behind + 2) ≡ budget = omega (arith, spent) in
    let led = fetched_tree b m e.demand.asked e.demand.sent budget (behind + 2) r r r1 t t1 None refl (first, all, run) in
    let step = root_step_out b m r1 r2 t1 t1 e (Some x) (s.0, record { live = live; made = s.1; shut = stays }, unrecorded_out b m s.0 r2 x s.3.0 s.3.1) in
    let half : Rooted M = record { tree = step.0; root = e } in
    let count = led.spent in
    let moved = driven_inside b m led.count e (record { machine = r; inputs = t }) (record { machine = r1; inputs = t1 }) led.run in
    let moves = leads_by_on (IsMovedInside b m) led.count 1 (whole r t e) (whole r1 t1 e) half moved (half, root_moved b m (whole r1 t1 e) step.0 step.1 step.1.step, refl) in
    (led.count + 1, half, omega (arith, count), moves, sent_out b m half (whole r2 t1 e1) (Next x) step.2 (can_item e live free) over)

are_fed : {M T : Type 0} (b : Machine M T) (m : Meaning T) (by : Bool) (xs : List T) (count budget left : ℕ) (r r' : M) (t t' : Inputs M) (e e' : Edge) →
    IsRowBatch b m by count 0 e.demand.asked e.demand.sent r t xs r' t' → count + length xs + left ≡ budget → length xs ≤ room (edge_view e) → edge_view e' ≡ carried (edge_view e) (length xs) → AreFed b m budget (whole r t e) xs left (whole r' t' e')
are_fed {M} b m by [] count budget left r r' t t' e e' h spent fits over =
    let still : e' ≡ e = same_edge e e' (over ∙ carried_none (edge_view e)) in
    let E : Edge → Type 0 = λ k. AreFed b m budget (whole r t e) [] left (whole r' t' k) in
    let led = fetched_tree b m e.demand.asked e.demand.sent budget left r r r' t t' None refl (count, omega (arith, spent), h) in
    subst E (sym still) (led.count, led.spent, driven_inside b m led.count e (record { machine = r; inputs = t }) (record { machine = r'; inputs = t' }) led.run)
are_fed {M} b m by (x ∷ xs) count budget left r r' t t' e e' h spent fits over =
    let sum = h.5 in
    let some : 0 < room (edge_view e) = omega (arith, fits) in
    let live : is_live e.state ≡ true = room_live (edge_view e) some in
    let here : room (edge_view e) ≡ e.demand.asked - e.demand.sent = room_is (edge_view e) live in
    let free : e.demand.sent < e.demand.asked = omega (arith, fits, here) in
    let e1 : Edge = one_more e free in
    let others : room (edge_view e1) ≡ e.demand.asked - (e.demand.sent + 1) = room_is (edge_view e1) live in
    let rest : length xs ≤ room (edge_view e1) = omega (arith, fits, here, others) in
    let behind : ℕ = h.1 + length xs + left in
    let first : h.0 + steps_for by 1 + 1 + behind ≡ budget = omega (arith, sum, spent) in
    let item = item_fed b m by h.0 behind budget r h.2 h.4 t h.3 x e e1 first live free refl h.6 h.7 in
    let more : edge_view e' ≡ carried (edge_view e1) (length xs) = over ∙ carried_more (edge_view e) (length xs) in
    (item.0, behind, item.1, whole h.4 h.3 e1, item.2, item.3, item.4, are_fed b m by xs h.1 behind left h.4 r' h.3 t' e1 e' h.8 refl rest more)

-- a batch that was tried, once the tree has gone on by it
pub tried_fed : {M T : Type 0} (b : Machine M T) (went : M → Noted T → M → Type 0) (m : Meaning T) (xs : List T) (notes : List (Noted T)) (budget left : ℕ) (old new : Rooted M) →
    IsTried b went m 0 old.tree.machine old.tree.inputs xs notes → moves_of notes + length xs + left ≡ budget → length xs ≤ room (edge_view old.root) → HasGoneOnBy went notes (length xs) old new → AreFed b m budget old xs left new
tried_fed b went m xs notes budget left old new tried spent fits gone =
    are_fed b m tried.by_step xs (moves_of notes) budget left old.tree.machine new.tree.machine old.tree.inputs new.tree.inputs old.root new.root
    (tried.made old.root.demand.asked old.root.demand.sent new.tree.machine new.tree.inputs gone.tree) spent fits gone.root

-- for a state beside the part, which takes each item as it is sent: so many steps of the two lead from the first ones to the last
pub fed_beside : {M T U : Type 0} (b : Machine M T) (m : Meaning T) (takes : U → T → U → Type 0) (step : Rooted M × U → Rooted M × U → Type 0) →
    ((x y : Rooted M) (u : U) → IsMovedInside b m x y → step (x, u) (y, u)) →
    ((x y : Rooted M) (u v : U) (item : T) → IsSentOut b m x (Next item) y → takes u item v → step (x, u) (y, v)) →
    (items : List T) (budget left : ℕ) (old new : Rooted M) (u v : U) → AreFed b m budget old items left new → Leads takes u items v → (n : ℕ) × (n + left ≡ budget) × LeadsBy step n (old, u) (new, v)
fed_beside {M} {T} {U} b m takes step moves sends [] budget left old new u v h taken =
    let P : U → Type 0 = λ w. (n : ℕ) × (n + left ≡ budget) × LeadsBy step n (old, u) (new, w) in
    let here : Rooted M → Rooted M × U = λ x. (x, u) in
    subst P (sym taken) (h.0, h.1, leads_by_lift (IsMovedInside b m) step here (λ x y w. moves x y u w) h.0 old new h.2)
fed_beside {M} {T} {U} b m takes step moves sends (item ∷ items) budget left old new u v h taken =
    let here : Rooted M → Rooted M × U = λ x. (x, u) in
    let before = leads_by_lift (IsMovedInside b m) step here (λ x y w. moves x y u w) h.0 old h.2 h.5 in
    let sent = sends h.2 h.3 u taken.0 item h.6 taken.1 in
    let first = leads_by_on step h.0 1 (old, u) (h.2, u) (h.3, taken.0) before ((h.3, taken.0), sent, refl) in
    let rest = fed_beside b m takes step moves sends items h.1 left h.3 new taken.0 v h.7 taken.2 in
    let spent = h.4 in
    let others = rest.1 in
    (h.0 + 1 + rest.0, omega (arith, spent, others), leads_by_on step (h.0 + 1) rest.0 (old, u) (h.3, taken.0) (new, v) first rest.2)

-- ---- many moves

worked : {M T : Type 0} (b : Machine M T) (m : Meaning T) (n : ℕ) (old new : Rooted M) → LeadsBy (IsMovedInside b m) n old new → IsWorked b m n old new
worked {M} b m zero old new d = let W : Rooted M → Type 0 = λ k. IsWorked b m 0 old k in subst W (sym d) (pumped_none b no_room m old tt)
worked b m (suc n) old new d =
    let N : ℕ → Type 0 = λ k. IsWorked b m k old new in
    let sum : 1 + n ≡ suc n = omega arith in
    subst N sum (pumped_on b no_room m 1 n old d.0 new tt tt tt (worked_once b m old d.0 d.1) (worked b m n d.0 new d.2))

-- the moves one by one come to those in all
pub fed_fetched : {M T : Type 0} (b : Machine M T) (m : Meaning T) (xs : List T) (budget left : ℕ) (old new : Rooted M) → AreFed b m budget old xs left new → AreFetched b m budget old xs left new
fed_fetched b m [] budget left old new h = (h.0, h.1, worked b m h.0 old new h.2)
fed_fetched b m (x ∷ xs) budget left old new h = (h.1, h.3, (h.0, h.2, h.4, worked b m h.0 old h.2 h.5, h.6), fed_fetched b m xs h.1 left h.3 new h.7)

pub are_fetched : {M T : Type 0} (b : Machine M T) (m : Meaning T) (by : Bool) (xs : List T) (count budget left : ℕ) (r r' : M) (t t' : Inputs M) (e e' : Edge) →
    IsRowBatch b m by count 0 e.demand.asked e.demand.sent r t xs r' t' → count + length xs + left ≡ budget → length xs ≤ room (edge_view e) → edge_view e' ≡ carried (edge_view e) (length xs) → AreFetched b m budget (whole r t e) xs left (whole r' t' e')
are_fetched b m by xs count budget left r r' t t' e e' h spent fits over = fed_fetched b m xs budget left (whole r t e) (whole r' t' e') (are_fed b m by xs count budget left r r' t t' e e' h spent fits over)
