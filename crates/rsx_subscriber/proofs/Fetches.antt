-- How an item is pulled through a part and handed to its subscriber.
use Rattle.rsx_sources.specs.declared.machine.Machine.{Ghosts as Machine}
use Rattle.rsx_rooted.specs.declared.nodes.Nodes.{Ghosts as Nodes}
use Rattle.std.proofs.Common.{◌≡◌, ℕ, ◌+◌, true, List, [], ◌∷◌, ◌++◌, Some, None, refl, ap, sym, ◌∙◌, subst, arith, Result, Ok, Err}
use Rattle.rsx_sources.specs.Prelude.{Meaning, SubId, Signal, Next}
use Rattle.rsx_pipe.specs.Fetched.{IsFetched}
use Rattle.rsx_pipe.specs.Part.{has_room, queue_sink}
use Rattle.rsx_pipe.specs.Part.{Part as AnyPart}
use Rattle.rsx_rooted.specs.declared.rooted.Pumped.{Pumped as Rest}
use Rattle.rsx_rooted.specs.declared.rooted.Pumped.TheVariants.{Idle as Rests, Budget as Wakes}
use Rattle.rsx_subscription.specs.Table.{answer, cell_of, state_after, asked_after, sent_after}
use Rattle.rsx_subscription.specs.declared.Input.TheVariants.{Next as Item}
use Rattle.rsx_subscription.specs.declared.State.TheVariants.{Fresh}
use Rattle.rsx_subscriber.specs.Pumped.{IsPumped, HasRested}
use Rattle.rsx_subscriber.specs.Standing.{is_delivery}
use Rattle.rsx_subscriber.specs.Stands.{IsTake, take_enabled}
use Rattle.rsx_subscriber.specs.declared.subscription.Subscription.{Subscription}
use Rattle.rsx_rooted.proofs.Parts.{pumped_on, pumped_sent, worked_into}
use Rattle.rsx_subscriber.proofs.Moves.{pumped_more, pumped_one, pumped_part, stands_taken, with_part}
use Rattle.rsx_subscriber.proofs.Standings.{delivery_made, signal_delivered}

-- ---- what a part that was fetched from did

pub pulled_none : {M T : Type 0} (mc : Machine M T) (kd : Nodes M T) (m : Meaning T) (id : SubId) (budget left : ℕ) (sub : Subscription M T) (w : sub.state ≡ Fresh → ⊥) (part : AnyPart M) (o : List (SubId × Signal T)) → IsFetched mc m budget sub.part None left part →
    (n : ℕ) × (n + left ≡ budget) × IsPumped mc kd m id n sub o (with_part sub w part sub.queue) o
pulled_none mc kd m id budget left sub w part o h = (h.0, h.1, pumped_part mc kd m id h.0 sub w part sub.queue o (worked_into mc queue_sink m h.0 sub.part part sub.queue h.2))

-- the item went into the queue
pub pulled_item : {M T : Type 0} (mc : Machine M T) (kd : Nodes M T) (m : Meaning T) (id : SubId) (budget left : ℕ) (sub : Subscription M T) (w : sub.state ≡ Fresh → ⊥) (part : AnyPart M) (x : T) (queue : List (Signal T)) (o o' : List (SubId × Signal T)) → IsFetched mc m budget sub.part (Some x) left part → sub.queue ≡ [] → queue ≡ sub.queue ++ Next x ∷ [] → o' ≡ o →
    (n : ℕ) × (n + left ≡ budget) × IsPumped mc kd m id n sub o (with_part sub w part queue) o'
pulled_item {M} {T} mc kd m id budget left sub w part x queue o o' h empty is same =
    let Q : List (Signal T) → Type 0 = λ q. IsPumped mc kd m id (h.0 + 1) sub o (with_part sub w part q) o in
    let O : List (SubId × Signal T) → Type 0 = λ l. IsPumped mc kd m id (h.0 + 1) sub o (with_part sub w part queue) l in
    let room : has_room sub.queue ≡ true = ap has_room empty in
    let run = pumped_on mc queue_sink m h.0 1 sub.part h.1 part sub.queue sub.queue (sub.queue ++ Next x ∷ []) (worked_into mc queue_sink m h.0 sub.part h.1 sub.queue h.3) (pumped_sent mc queue_sink m h.1 part sub.queue (sub.queue ++ Next x ∷ []) (Next x) h.4 room refl) in
    (h.0 + 1, h.2, subst O (sym same) (subst Q (sym is) (pumped_part mc kd m id (h.0 + 1) sub w part (sub.queue ++ Next x ∷ []) o run)))

-- ---- the item goes to the subscriber

-- a subscription after a Take from that queue
pub record IsHandedOn {M T : Type 0} (sub : Subscription M T) (pulled : AnyPart M) (new : Subscription M T) : Type 0 where
  pub part : new.part ≡ pulled
  pub queue : new.queue ≡ sub.queue
  pub live : new.live ≡ sub.live
  pub state : new.state ≡ state_after (cell_of sub.state Item) sub.state
  pub requested : new.demand.asked ≡ asked_after (cell_of sub.state Item) sub.demand
  pub delivered : new.demand.sent ≡ sent_after (cell_of sub.state Item) sub.demand

pub handed_on : {M T : Type 0} (mc : Machine M T) (kd : Nodes M T) (m : Meaning T) (id : SubId) (budget left left' : ℕ) (sub : Subscription M T) (w : sub.state ≡ Fresh → ⊥) (part : AnyPart M) (x : T) (new : Subscription M T) (o o' : List (SubId × Signal T)) → IsFetched mc m budget sub.part (Some x) left part → sub.queue ≡ [] → left' + 1 ≡ left →
    is_delivery (answer (cell_of sub.state Item) sub.demand) ≡ true → IsHandedOn sub part new → o' ≡ o ++ (id, Next x) ∷ [] → (n : ℕ) × (n + left' ≡ budget) × IsPumped mc kd m id n sub o new o'
handed_on {M} {T} mc kd m id budget left left' sub w part x new o o' h empty one d k out =
    let queue : List (Signal T) = sub.queue ++ Next x ∷ [] in
    let mid : Subscription M T = with_part sub w part queue in
    let front : queue ≡ Next x ∷ new.queue = ap (λ q. q ++ Next x ∷ []) empty ∙ ap (λ q. Next x ∷ q) (sym (k.queue ∙ empty)) in
    let took : IsTake mid (Next x) new = record { part = k.part; queue = front; state = k.state; live = k.live; requested = k.requested; delivered = k.delivered } in
    let E : List (Signal T) → Type 0 = λ q. take_enabled (with_part sub w part q) 0 ≡ true in
    let can : take_enabled mid 0 ≡ true = subst E (sym front) d in
    let pulled = pulled_item mc kd m id budget left sub w part x queue o o h empty refl refl in (
      pulled.0 + 1,
      let s = pulled.1 in omega (arith, s, one),
      pumped_more mc kd m id pulled.0 1 sub mid new o o o' pulled.2
          (pumped_one mc kd m id mid new o o' (Next x) out can took (λ published past g. stands_taken mc m published mid new (Next x) past (record { take = took; delivers = signal_delivered sub.state (Next x) sub.demand (delivery_made _ d) }) g)),
    )

-- ---- how driving ends where some of the budget was spent before

pub rested_after : {M T E : Type 0} (mc : Machine M T) (m : Meaning T) (budget left k n : ℕ) (sub : Subscription M T) (r : Result Rest E) → k + left ≡ budget → HasRested mc m left n sub r → HasRested mc m budget (k + n) sub r
rested_after mc m budget left k n sub (Ok (Rests l)) e h = (let q = h.0 in omega (arith, e, q), h.1)
rested_after mc m budget left k n sub (Ok Wakes) e h = (let q = h.0 in omega (arith, e, q), h.1)
rested_after mc m budget left k n sub (Err x) e h = let q = h in omega (arith, e, q)
