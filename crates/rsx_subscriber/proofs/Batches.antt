-- How items that were pulled through a part many at once are handed to its subscriber.
use Rattle.rsx_sources.specs.declared.machine.Machine.{Ghosts as Machine}
use Rattle.rsx_rooted.specs.declared.nodes.Nodes.{Ghosts as Nodes}
use Rattle.std.proofs.Common.{◌≡◌, ℕ, ◌+◌, ◌-◌, ◌<◌, ◌≤◌, true, List, [], ◌∷◌, ◌++◌, length, map, append-nil, refl, sym, ◌∙◌, subst, arith}
use Rattle.std.proofs.lemmas.List.{append_assoc}
use Rattle.rsx_rooted.proofs.Fetches.{fetched_nothing, fetched_same}
use Rattle.rsx_rooted.proofs.OverEdges.{same_demand}
use Rattle.rsx_demand.specs.declared.Demand.{Demand}
use Rattle.rsx_sources.specs.Prelude.{Meaning, SubId, Signal, Next}
use Rattle.rsx_pipe.specs.Fetched.{AreFetched}
use Rattle.rsx_pipe.specs.Part.{Part as AnyPart}
use Rattle.rsx_subscription.specs.Table.{answer, cell_of}
use Rattle.rsx_subscription.specs.declared.Input.TheVariants.{Next as Item}
use Rattle.rsx_subscription.specs.declared.State.{State}
use Rattle.rsx_subscription.specs.declared.State.TheVariants.{Fresh, Open, Cancelled, Done, Failed}
use Rattle.rsx_subscriber.specs.Pumped.{IsPumped, to}
use Rattle.rsx_subscriber.specs.Standing.{is_delivery}
use Rattle.rsx_subscriber.specs.declared.subscription.Subscription.{Subscription}
use Rattle.rsx_subscriber.proofs.Fetches.{IsHandedOn, handed_on, pulled_none}
use Rattle.rsx_subscriber.proofs.Moves.{pumped_more, with_part}
use Rattle.rsx_subscriber.proofs.Standings.{item_delivered, open_delivers}

-- where the table delivers an item, it delivers another one within the demand
still_delivers : (s : State) (d d' : Demand) → is_delivery (answer (cell_of s Item) d) ≡ true → d'.sent < d'.asked → is_delivery (answer (cell_of s Item) d') ≡ true
still_delivers Open d d' e more = open_delivers {T = ℕ} d' (Next 0) [] (λ x h. more)
still_delivers Fresh d d' e more = cc
still_delivers Cancelled d d' e more = cc
still_delivers Done d d' e more = cc
still_delivers Failed d d' e more = cc

-- nothing came, and the part is as it was
pub pulled_back : {M T : Type 0} (mc : Machine M T) (kd : Nodes M T) (m : Meaning T) (id : SubId) (budget left : ℕ) (sub : Subscription M T) (w : sub.state ≡ Fresh → ⊥) (part : AnyPart M) (o o' : List (SubId × Signal T)) → part ≡ sub.part → left ≡ budget → o' ≡ o →
    (n : ℕ) × (n + left ≡ budget) × IsPumped mc kd m id n sub o (with_part sub w part sub.queue) o'
pulled_back {M} {T} mc kd m id budget left sub w part o o' same all out =
    let pulled = pulled_none mc kd m id budget budget sub w part o (fetched_same mc m budget budget sub.part sub.part part (fetched_nothing mc m budget sub.part) same) in
    let q = pulled.1 in
    let O : List (SubId × Signal T) → Type 0 = λ l. IsPumped mc kd m id pulled.0 sub o (with_part sub w part sub.queue) l in
    (pulled.0, omega (arith, q, all), subst O (sym out) pulled.2)

abbrev counted : (d : Demand) → d.sent < d.asked → Demand
counted d free = record { asked = d.asked; sent = d.sent + 1; covered = omega (arith, free); bounded = d.bounded }

-- a subscription with another part and demand
abbrev pub with_demand : {M T : Type 0} → (sub : Subscription M T) → (sub.state ≡ Fresh → ⊥) → AnyPart M → Demand → Subscription M T
with_demand sub w part d = record { part = part; queue = sub.queue; state = sub.state; demand = d; live = sub.live; opened = w }

pub handed_all : {M T : Type 0} (mc : Machine M T) (kd : Nodes M T) (m : Meaning T) (id : SubId) (xs : List T) (budget left left' : ℕ) (sub : Subscription M T) (w : sub.state ≡ Fresh → ⊥) (part : AnyPart M) (d' : Demand) (o o' : List (SubId × Signal T)) →
    AreFetched mc m budget sub.part xs left part → sub.queue ≡ [] → left' + length xs ≡ left → (0 < length xs → is_delivery (answer (cell_of sub.state Item) sub.demand) ≡ true) → sub.demand.sent + length xs ≤ sub.demand.asked →
    d'.asked ≡ sub.demand.asked → d'.sent ≡ sub.demand.sent + length xs → o' ≡ o ++ to id (map Next xs) → (n : ℕ) × (n + left' ≡ budget) × IsPumped mc kd m id n sub o (with_demand sub w part d') o'
handed_all {M} {T} mc kd m id [] budget left left' sub w part d' o o' h empty spent d fits asked sent out =
    let same : d' ≡ sub.demand = same_demand sub.demand d' asked (let z : sub.demand.sent + 0 ≡ sub.demand.sent = omega arith in sent ∙ z) in
    let pulled = pulled_none mc kd m id budget left sub w part o h in
    let q = pulled.1 in
    let D : Demand → Type 0 = λ k. IsPumped mc kd m id pulled.0 sub o (with_demand sub w part k) o in
    let O : List (SubId × Signal T) → Type 0 = λ l. IsPumped mc kd m id pulled.0 sub o (with_demand sub w part d') l in
    (pulled.0, omega (arith, q, spent), subst O (sym (out ∙ append-nil o)) (subst D (sym same) pulled.2))
handed_all {M} {T} mc kd m id (x ∷ xs) budget left left' sub w part d' o o' h empty spent d fits asked sent out =
    let here : is_delivery (answer (cell_of sub.state Item) sub.demand) ≡ true = d (omega arith) in
    let free : sub.demand.sent < sub.demand.asked = omega (arith, fits) in
    let d1 : Demand = counted sub.demand free in
    let sub1 : Subscription M T = with_demand sub w h.1 d1 in
    let o1 : List (SubId × Signal T) = o ++ (id, Next x) ∷ [] in
    let t = item_delivered sub.state sub.demand here in
    let k : IsHandedOn sub h.1 sub1 = record { part = refl; queue = refl; live = refl; state = sym t.0; requested = sym t.1; delivered = sym t.2 } in
    let behind : o' ≡ o1 ++ to id (map Next xs) = out ∙ sym (append_assoc o ((id, Next x) ∷ []) (to id (map Next xs))) in
    let rest = handed_all mc kd m id xs h.0 left (left' + 1) sub1 w part d' o1 o' h.3 empty (omega (arith, spent)) (λ some. still_delivers sub.state sub.demand d1 here (omega (arith, fits, some))) (omega (arith, fits)) asked (omega (arith, sent)) behind in
    let r = rest.1 in
    let one : (h.0 - 1) + 1 ≡ h.0 = omega (arith, r) in
    let first = handed_on mc kd m id budget h.0 (h.0 - 1) sub w h.1 x sub1 o o1 h.2 empty one here k refl in
    let f = first.1 in
    (first.0 + rest.0, omega (arith, f, r, one), pumped_more mc kd m id first.0 rest.0 sub sub1 (with_demand sub w part d') o o1 o' first.2 rest.2)
