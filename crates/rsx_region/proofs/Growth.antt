-- A move inside a part takes back nothing that was asked over an edge, and makes no edge live again.
use Rattle.std.proofs.Common.{◌≡◌, inl, inr, ℕ, zero, suc, ◌+◌, ◌-◌, ◌<◌, ◌≤◌, min, Bool, true, false, ◌&&◌, nat_eq, nat_le, nat_lt, if◌then◌else◌, List, [], ◌∷◌, ◌++◌, length, map, refl, ap, sym, ◌∙◌, subst, arith, Option, Some, None, slice_get}
use Rattle.std.proofs.lemmas.Bool.{cases_lt, le-leb, lt-leb}
use Rattle.std.proofs.lemmas.Bool.Decides.{nat_tests}
use Rattle.std.proofs.lemmas.Option.{same_Some}
use Rattle.rsx_demand.specs.declared.TheConstants.{UNBOUNDED}
use Rattle.rsx_types.proofs.Numbers.{not_zero}
use Rattle.rsx_sources.specs.Prelude.{Meaning, Signal, Stream}
use Rattle.rsx_sources.specs.declared.machine.Front.{Front}
use Rattle.rsx_sources.specs.declared.machine.Machine.{Ghosts as Machine}
use Rattle.rsx_tree.proofs.Changes.{chosen_first, chosen_second}
use Rattle.rsx_tree.proofs.Effects.{length_edges}
use Rattle.rsx_tree.proofs.Noted.{get_left, get_right}
use Rattle.rsx_tree.specs.Chosen.{ended_there, edges_after as stepped_after, stepped_edges}
use Rattle.rsx_tree.specs.Stepped.{station_of}
use Rattle.rsx_tree.specs.Edges.{EdgeView, asked_up_to, can_ask_for, changed_at, closed_if, closed_view, edge_view, is_live, passed}
use Rattle.rsx_tree.specs.Inputs.{Place, can_ask_in, edges, is_own, place, sent_edges, size, wanted_at}
use Rattle.rsx_tree.specs.Tree.{place_of}
use Rattle.rsx_tree.specs.declared.inputs.Inputs.{Inputs, End, More'}
use Rattle.rsx_tree.specs.declared.look.NodeMove.{NodeMove}
use Rattle.rsx_tree.specs.declared.look.NodeMove.TheVariants.{Ask, Send, Pick, Row}
use Rattle.rsx_tree.specs.declared.node.Node.{Node}
use Rattle.rsx_rooted.specs.Tree.{edges_after, want_in}
use Rattle.rsx_tree.proofs.Runs.{leads_keep}
use Rattle.rsx_pipe.specs.Feeding.{inside_enabled}
use Rattle.rsx_pipe.specs.Fetched.{IsWorked}
use Rattle.rsx_pipe.specs.Part.{IsEffect, IsMade, IsMovedOver, Part, all_edges, no_room, receiver_ended}
use Rattle.rsx_link.specs.declared.cancel.CancelSeat.{CancelSeat}
use Rattle.rsx_link.specs.declared.down.Down.{Down}
use Rattle.rsx_region.specs.Inlet.{LinkStands}
use Rattle.rsx_region.proofs.Edges.{AllGrow, Grows, all_grow_closed, all_grow_same, all_grow_then, grows_same}
use Rattle.rsx_region.proofs.Inlets.{grows_passed, kept_on}

-- ---- lists of edges

grow_both : (es fs gs hs : List EdgeView) → AllGrow es fs → AllGrow gs hs → AllGrow (es ++ gs) (fs ++ hs)
grow_both [] [] gs hs a c = c
grow_both [] (f ∷ fs) gs hs a c = absurd a
grow_both (e ∷ es) [] gs hs a c = absurd a
grow_both (e ∷ es) (f ∷ fs) gs hs a c = (a.0, grow_both es fs gs hs a.1 c)

grow_if : (c : Bool) (es x y : List EdgeView) → AllGrow es x → AllGrow es y → AllGrow es (if c then x else y)
grow_if true es x y a d = a
grow_if false es x y a d = d

grow_closed_if : (c : Bool) (es fs : List EdgeView) → AllGrow es fs → AllGrow es (closed_if c fs)
grow_closed_if false es fs a = a
grow_closed_if true es fs a = all_grow_then es fs (map closed_view fs) a (all_grow_closed fs)

less : (k : ℕ) → k ≡ suc k - 1
less k = omega arith

above : (k : ℕ) → 0 < suc k
above k = omega arith

grow_changed : (f : EdgeView → EdgeView) (at : ℕ) (es : List EdgeView) → ((e : EdgeView) → slice_get es at ≡ Some e → Grows e (f e)) → AllGrow es (changed_at f at es)
grow_changed f at [] h = tt
grow_changed f zero (e ∷ es) h = (h e refl, all_grow_same es)
grow_changed f (suc at) (e ∷ es) h =
    let P : ℕ → Type 0 = λ k. AllGrow es (changed_at f k es) in
    let Q : List EdgeView → Type 0 = λ l. AllGrow (e ∷ es) l in
    subst Q (sym (chosen_second (nat_eq (suc at) 0) (f e ∷ es) (e ∷ changed_at f (suc at - 1) es) (not_zero (suc at) (above at)))) (grows_same e, subst P (less at) (grow_changed f at es h))

-- ---- an Ask

-- the edge of a place is the one with that number, and of no edge more is asked than can be
record IsThere {M : Type 0} (t : Inputs M) (at : ℕ) (p : Place M) : Type 0 where
  edge : slice_get (edges t) at ≡ Some p.edge
  bounded : p.edge.asked ≤ UNBOUNDED

there : {M : Type 0} (r : M) (i asked sent : ℕ) (t : Inputs M) (at : ℕ) (p : Place M) → place r i asked sent t at ≡ Some p → IsThere t at p
there r i asked sent End at p is = cc
there {M} r i asked sent (More' e n c below d beside) zero p is =
    let here : Place M = record { receiver = r; input = i; asked = asked; sent = sent; edge = edge_view e; sender = n } in
    let same : here ≡ p = same_Some here p is in
    let edge : edge_view e ≡ p.edge = ap (λ x. x.edge) same in
    let B : EdgeView → Type 0 = λ v. v.asked ≤ UNBOUNDED in
    record { edge = ap Some edge; bounded = subst B edge e.demand.bounded }
there {M} r i asked sent (More' e n c below d beside) (suc k) p is =
    let here : Place M = record { receiver = r; input = i; asked = asked; sent = sent; edge = edge_view e; sender = n } in
    let low = place n 0 e.demand.asked e.demand.sent below (suc k - 1) in
    let side = place r (i + 1) asked sent beside (suc k - 1 - size below) in
    let rest : (if nat_le (suc k) (size below) then low else side) ≡ Some p = sym (chosen_second (nat_eq (suc k) 0) (Some here) (if nat_le (suc k) (size below) then low else side) (not_zero (suc k) (above k))) ∙ is in
    let len = length_edges below in
    elim (cases_lt (size below) (suc k)) [
      | inl beyond ↦
          let x = there r (i + 1) asked sent beside (suc k - 1 - size below) p (sym (chosen_second (nat_le (suc k) (size below)) low side (lt-leb (suc k) (size below) beyond)) ∙ rest) in
          let at : length (edges below) + (suc k - 1 - size below) ≡ k = omega (arith, beyond, len) in
          record { edge = ap (slice_get (edges below ++ edges beside)) (sym at) ∙ (get_right (suc k - 1 - size below) (edges below) (edges beside) ∙ x.edge); bounded = x.bounded }
      | inr within ↦
          let x = there n 0 e.demand.asked e.demand.sent below (suc k - 1) p (sym (chosen_first (nat_le (suc k) (size below)) low side (le-leb (suc k) (size below) within)) ∙ rest) in
          let inside : k < length (edges below) = omega (arith, within, len) in
          record { edge = get_left k (edges below) (edges beside) inside ∙ (ap (slice_get (edges below)) (less k) ∙ x.edge); bounded = x.bounded }
    ]

and_left : (c d : Bool) → c && d ≡ true → c ≡ true
and_left true d h = refl
and_left false d h = cc

and_right : (c d : Bool) → c && d ≡ true → d ≡ true
and_right true d h = h
and_right false d h = cc

lit : (x y : ℕ) → nat_lt x y ≡ true → x < y
lit x y h = grind (arith, nat_tests, h)

asked_grows : (want : ℕ) (e : EdgeView) → can_ask_for e want ≡ true → e.asked ≤ UNBOUNDED → Grows e (asked_up_to want e)
asked_grows want e can most = let l = lit e.asked want (and_right (is_live e.state) (nat_lt e.asked want) can) in record { asked = below e.asked want l most; dead = λ d. d }
  where
    below : (x w : ℕ) → x < w → x ≤ UNBOUNDED → x ≤ min UNBOUNDED w
    below x w a c = omega (arith, a, c)

place_grows : {M T : Type 0} (b : Machine M T) (r : M) (i asked sent : ℕ) (t : Inputs M) (at : ℕ) (o : Option (Place M)) → place r i asked sent t at ≡ o → can_ask_in b o ≡ true → (e : EdgeView) → slice_get (edges t) at ≡ Some e → Grows e (asked_up_to (want_in b o) e)
place_grows b r i asked sent t at None is can e get = cc
place_grows b r i asked sent t at (Some p) is can e get =
    let x = there r i asked sent t at p is in
    let same : p.edge ≡ e = let a = x.edge in cc in
    let P : EdgeView → Type 0 = λ v. Grows v (asked_up_to (wanted_at b p) v) in
    subst P same (asked_grows (wanted_at b p) p.edge (and_left (can_ask_for p.edge (wanted_at b p)) _ can) x.bounded)

-- ---- a Send, a pick, and a row

grow_sent : {M : Type 0} (ended : Bool) (f : Front) (t : Inputs M) (at : ℕ) → AllGrow (edges t) (sent_edges ended f t at)
grow_sent ended f End at = tt
grow_sent ended f (More' e n c below d beside) at =
    let es = edge_view e ∷ (edges below ++ edges beside) in
    let low = edge_view e ∷ (closed_if (ended && is_own below (at - 1)) (sent_edges ended f below (at - 1)) ++ edges beside) in
    let side = edge_view e ∷ (edges below ++ sent_edges ended f beside (at - 1 - size below)) in
    grow_if (nat_eq at 0) es (passed (edge_view e) f ∷ (edges below ++ edges beside)) (if nat_le at (size below) then low else side) (grows_passed (edge_view e) f, all_grow_same (edges below ++ edges beside))
    (grow_if (nat_le at (size below)) es low side
    (grows_same (edge_view e), grow_both (edges below) (closed_if (ended && is_own below (at - 1)) (sent_edges ended f below (at - 1))) (edges beside) (edges beside) (grow_closed_if (ended && is_own below (at - 1)) (edges below) (sent_edges ended f below (at - 1)) (grow_sent ended f below (at - 1))) (all_grow_same (edges beside)))
    (grows_same (edge_view e), grow_both (edges below) (edges below) (edges beside) (sent_edges ended f beside (at - 1 - size below)) (all_grow_same (edges below)) (grow_sent ended f beside (at - 1 - size below))))

grow_stepped : {M : Type 0} (ended : Bool) (t : Inputs M) (at : ℕ) → AllGrow (edges t) (stepped_edges ended t at)
grow_stepped ended End at = tt
grow_stepped ended (More' e n c below d beside) at =
    let es = edge_view e ∷ (edges below ++ edges beside) in
    let low = edge_view e ∷ (stepped_edges ended below (at - 1) ++ edges beside) in
    let side = edge_view e ∷ (edges below ++ stepped_edges ended beside (at - 1 - size below)) in
    grow_if (nat_eq at 0) es (edge_view e ∷ (closed_if ended (edges below) ++ edges beside)) (if nat_le at (size below) then low else side) (grows_same (edge_view e), grow_both (edges below) (closed_if ended (edges below)) (edges beside) (edges beside) (grow_closed_if ended (edges below) (edges below) (all_grow_same (edges below))) (all_grow_same (edges beside)))
    (grow_if (nat_le at (size below)) es low side
    (grows_same (edge_view e), grow_both (edges below) (stepped_edges ended below (at - 1)) (edges beside) (edges beside) (grow_stepped ended below (at - 1)) (all_grow_same (edges beside)))
    (grows_same (edge_view e), grow_both (edges below) (edges below) (edges beside) (stepped_edges ended beside (at - 1 - size below)) (all_grow_same (edges below)) (grow_stepped ended beside (at - 1 - size below))))

grow_after : {M : Type 0} (ended : Bool) (t : Node M) (at : ℕ) → AllGrow (edges t.inputs) (stepped_after ended t at)
grow_after ended t zero = grow_closed_if ended (edges t.inputs) (edges t.inputs) (all_grow_same (edges t.inputs))
grow_after ended t (suc at) = grow_stepped ended t.inputs at

-- the root edge stays, and the others grew so
grow_below : {M : Type 0} (p p' : Part M) (es : List EdgeView) → p'.root ≡ p.root → edges p'.tree.inputs ≡ es → AllGrow (edges p.tree.inputs) es → AllGrow (all_edges p) (all_edges p')
grow_below p p' es root is grow =
    let G : EdgeView → Type 0 = λ v. Grows (edge_view p.root) v in
    let A : List EdgeView → Type 0 = λ l. AllGrow (edges p.tree.inputs) l in
    (subst G (ap edge_view (sym root)) (grows_same (edge_view p.root)), subst A (sym is) grow)

-- ---- a move inside

effect_grows : {M T : Type 0} (b : Machine M T) (m : Meaning T) (move : NodeMove) (p p' : Part M) → inside_enabled b m p move ≡ true → IsEffect b m move p [] p' → AllGrow (all_edges p) (all_edges p')
effect_grows b m (Ask zero) p p' can k = cc
effect_grows b m (Ask (suc n)) p p' can k =
    let o = place_of p.tree (suc n - 1) p.root.demand.asked p.root.demand.sent in
    let may : can_ask_in b o ≡ true = sym (chosen_second (nat_eq (suc n) 0) false (can_ask_in b o) (not_zero (suc n) (above n))) ∙ can in
    let f = asked_up_to (want_in b o) in
    let is : all_edges p' ≡ changed_at f (suc n) (all_edges p) = k.1.edges ∙ ap (λ w. changed_at (asked_up_to w) (suc n) (all_edges p)) (chosen_second (nat_eq (suc n) 0) p.root.demand.asked (want_in b o) (not_zero (suc n) (above n))) in
    let A : List EdgeView → Type 0 = λ l. AllGrow (all_edges p) l in
    subst A (sym is) (grow_changed f (suc n) (all_edges p) (λ e get. place_grows b p.tree.machine 0 p.root.demand.asked p.root.demand.sent p.tree.inputs (suc n - 1) o refl may e (ap (slice_get (edges p.tree.inputs)) (sym (less n)) ∙ get)))
effect_grows b m (Send zero) p p' can k = cc
effect_grows b m (Send (suc n)) p p' can k =
    let ended = receiver_ended b p' (suc n) in
    let es = edges_after ended k.front p.tree (suc n - 1) in
    let is : all_edges p' ≡ edge_view p.root ∷ es = k.edges ∙ chosen_second (nat_eq (suc n) 0) (passed (edge_view p.root) k.front ∷ edges p.tree.inputs) (edge_view p.root ∷ es) (not_zero (suc n) (above n)) in
    let A : List EdgeView → Type 0 = λ l. AllGrow (all_edges p) l in
    subst A (sym is) (grows_same (edge_view p.root), grow_closed_if (ended && is_own p.tree.inputs (suc n - 1)) (edges p.tree.inputs) (sent_edges ended k.front p.tree.inputs (suc n - 1)) (grow_sent ended k.front p.tree.inputs (suc n - 1)))
effect_grows b m (Pick n input) p p' can k = let x = k.1 in let ended = ended_there b (station_of p'.tree (edge_view p.root) n) in grow_below p p' (stepped_after ended p.tree n) x.root x.tree.edges (grow_after ended p.tree n)
effect_grows b m (Row n) p p' can k = let x = k.1 in let ended = ended_there b (station_of p'.tree (edge_view p.root) n) in grow_below p p' (stepped_after ended p.tree n) x.root x.tree.edges (grow_after ended p.tree n)

-- so many moves inside the part
worked_grows : {M T : Type 0} (b : Machine M T) (m : Meaning T) (n : ℕ) (p p' : Part M) → IsWorked b m n p p' → AllGrow (all_edges p) (all_edges p')
worked_grows {M} {T} b m n p p' k = leads_keep (IsMovedOver b no_room m) (λ (y : Part M × Unit {0}). AllGrow (all_edges p) (all_edges y.0)) on (p, tt) (p', tt) k.moves.labels k.moves.run (all_grow_same (all_edges p))
  where
    on : (y z : Part M × Unit {0}) (out : List (Signal T)) → IsMovedOver b no_room m y out z → AllGrow (all_edges p) (all_edges y.0) → AllGrow (all_edges p) (all_edges z.0)
    on y z out w h = all_grow_then (all_edges p) (all_edges y.0) (all_edges z.0) h (effect_grows b m w.move y.0 z.0 w.enabled (subst (λ o. IsEffect b m w.move y.0 o z.0) (sym w.queued) w.effect))

pub link_worked : {M T : Type 0} (b : Machine M T) (m : Meaning T) (taken : List (Stream T)) (move : NodeMove) (p p' : Part M) (h : ℕ) (d : Down T) (c : CancelSeat) (out : List (Signal T)) → inside_enabled b m p move ≡ true → IsMade b m move p out p' → [] ≡ [] ++ out → LinkStands b taken p h d c → LinkStands b taken p' h d c
link_worked {M} {T} b m taken move p p' h d c out can made none st =
    let I : List (Signal T) → Type 0 = λ o. IsMade b m move p o p' in
    let k = subst I (sym none) made in
    kept_on b taken p p' h d c k.alike.2 (effect_grows b m move p p' can k.effect) st

pub link_many : {M T : Type 0} (b : Machine M T) (m : Meaning T) (taken : List (Stream T)) (n : ℕ) (p p' : Part M) (h : ℕ) (d : Down T) (c : CancelSeat) → IsWorked b m n p p' → LinkStands b taken p h d c → LinkStands b taken p' h d c
link_many b m taken n p p' h d c k st = kept_on b taken p p' h d c k.alike.2 (worked_grows b m n p p' k) st
