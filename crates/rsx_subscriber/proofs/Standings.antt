-- What the steps of the subscription table do to how a subscription stands.
use Rattle.std.proofs.Common.{◌≡◌, ℕ, ◌+◌, ◌<◌, ℤ, pos, Bool, true, false, nat_lt, int_lt, unsigned_abs, if◌then◌else◌, List, [], ◌∷◌, length, Result, Ok, Err, refl, ap, sym, add-zero}
use Rattle.std.proofs.lemmas.Bool.{lt-ltb}
use Rattle.rsx_demand.specs.Demand.{saturating_total}
use Rattle.rsx_demand.specs.declared.Demand.{Demand}
use Rattle.rsx_subscription.specs.Table.{cell, cell_of, Column, good_request, bad_request, answer, state_after as next_state, asked_after, sent_after}
use Rattle.rsx_subscription.specs.declared.State.{State}
use Rattle.rsx_subscription.specs.declared.State.TheVariants.{Fresh, Open, Cancelled, Done, Failed}
use Rattle.rsx_subscription.specs.declared.Input.TheVariants.{Request, Cancel, Next as Item}
use Rattle.rsx_subscription.specs.declared.Effect.{Effect}
use Rattle.rsx_subscription.specs.declared.Effect.TheVariants.{Opened, Deliver, Add, Bad, Close, Drop, Nothing}
use Rattle.rsx_subscription.specs.declared.Refusal.{Refusal}
use Rattle.rsx_subscription.specs.declared.Refusal.TheVariants.{Overrun}
use Rattle.rsx_sources.specs.Prelude.{Signal, Next, Complete, Error}
use Rattle.rsx_subscriber.specs.declared.state.SubscriptionState.TheVariants.{Open as IsOpen}
use Rattle.rsx_subscriber.specs.Past.{items_in, state_after}
use Rattle.rsx_subscriber.specs.Standing.{standing, input_of, is_delivery, delivers}

-- a subscription that was opened stands open in the history just where it is open in the table
pub open_standing : (s : State) (live : Bool) → s ≡ Open → standing s live ≡ IsOpen
open_standing s live e = ap (λ t. standing t live) e

pub standing_open : (s : State) (live : Bool) → (s ≡ Fresh → ⊥) → standing s live ≡ IsOpen → s ≡ Open
standing_open Fresh live n e = absurd (n refl)
standing_open Open live n e = refl
standing_open Cancelled live n e = cc
standing_open Done live n e = cc
standing_open Failed true n e = cc
standing_open Failed false n e = cc

-- one answer has one effect
pub same_effect : (r : Result Effect Refusal) (a b : Effect) → r ≡ Ok a → r ≡ Ok b → a ≡ b
same_effect r a b x y = cc

-- ---- a cancel

pub cancel_closes : (s : State) (d : Demand) → answer (cell_of s Cancel) d ≡ Ok Close → (s ≡ Open) × (next_state (cell_of s Cancel) s ≡ Cancelled)
cancel_closes Fresh d e = cc
cancel_closes Open d e = (refl, refl)
cancel_closes Cancelled d e = cc
cancel_closes Done d e = cc
cancel_closes Failed d e = cc

-- the demand stays
pub cancel_asks : (s : State) (d : Demand) → (asked_after (cell_of s Cancel) d ≡ d.asked) × (sent_after (cell_of s Cancel) d ≡ d.sent)
cancel_asks Fresh d = (refl, refl)
cancel_asks Open d = (refl, refl)
cancel_asks Cancelled d = (refl, refl)
cancel_asks Done d = (refl, refl)
cancel_asks Failed d = (refl, refl)

-- ---- a request

-- the column of a request
abbrev pub requests : Bool → ℕ → Column
requests b k = if b then good_request k else bad_request

-- what a request of more than 0 does
pub record Adds (s : State) (n : ℤ) (d : Demand) : Type 0 where
  pub was : s ≡ Open
  pub good : int_lt (pos 0) n ≡ true
  pub state : next_state (cell_of s (Request n)) s ≡ s
  pub asked : asked_after (cell_of s (Request n)) d ≡ saturating_total d.asked (unsigned_abs n)
  pub sent : sent_after (cell_of s (Request n)) d ≡ d.sent

pub request_adds : (s : State) (n : ℤ) (d : Demand) → answer (cell_of s (Request n)) d ≡ Ok Add → Adds s n d
request_adds s n d e =
    let r = by_cell s (int_lt (pos 0) n) (unsigned_abs n) d e in
    record { was = r.0; good = r.1; state = r.2; asked = r.3; sent = r.4 }
  where
    by_cell : (s : State) (b : Bool) (k : ℕ) (d : Demand) → answer (cell s (requests b k)) d ≡ Ok Add →
        (s ≡ Open) × (b ≡ true) × (next_state (cell s (requests b k)) s ≡ s) × (asked_after (cell s (requests b k)) d ≡ saturating_total d.asked k) × (sent_after (cell s (requests b k)) d ≡ d.sent)
    by_cell Open true k d e = (refl, refl, refl, refl, refl)
    by_cell Open false k d e = cc
    by_cell Fresh true k d e = cc
    by_cell Fresh false k d e = cc
    by_cell Cancelled true k d e = cc
    by_cell Cancelled false k d e = cc
    by_cell Done true k d e = cc
    by_cell Done false k d e = cc
    by_cell Failed true k d e = cc
    by_cell Failed false k d e = cc

-- what a bad request does
pub record IsBadRequest (s : State) (n : ℤ) (d : Demand) : Type 0 where
  pub was : s ≡ Open
  pub bad : int_lt (pos 0) n ≡ false
  pub state : next_state (cell_of s (Request n)) s ≡ Failed
  pub asked : asked_after (cell_of s (Request n)) d ≡ d.asked
  pub sent : sent_after (cell_of s (Request n)) d ≡ d.sent

pub request_bad : (s : State) (n : ℤ) (d : Demand) → answer (cell_of s (Request n)) d ≡ Ok Bad → IsBadRequest s n d
request_bad s n d e =
    let r = by_cell s (int_lt (pos 0) n) (unsigned_abs n) d e in
    record { was = r.0; bad = r.1; state = r.2; asked = r.3; sent = r.4 }
  where
    by_cell : (s : State) (b : Bool) (k : ℕ) (d : Demand) → answer (cell s (requests b k)) d ≡ Ok Bad →
        (s ≡ Open) × (b ≡ false) × (next_state (cell s (requests b k)) s ≡ Failed) × (asked_after (cell s (requests b k)) d ≡ d.asked) × (sent_after (cell s (requests b k)) d ≡ d.sent)
    by_cell Open true k d e = cc
    by_cell Open false k d e = (refl, refl, refl, refl, refl)
    by_cell Fresh true k d e = cc
    by_cell Fresh false k d e = cc
    by_cell Cancelled true k d e = cc
    by_cell Cancelled false k d e = cc
    by_cell Done true k d e = cc
    by_cell Done false k d e = cc
    by_cell Failed true k d e = cc
    by_cell Failed false k d e = cc

-- what any other request does
pub record Ignores (s : State) (n : ℤ) (d : Demand) : Type 0 where
  pub was : s ≡ Open → ⊥
  pub state : next_state (cell_of s (Request n)) s ≡ s
  pub asked : asked_after (cell_of s (Request n)) d ≡ d.asked
  pub sent : sent_after (cell_of s (Request n)) d ≡ d.sent

pub request_ignored : (s : State) (n : ℤ) (d : Demand) → (answer (cell_of s (Request n)) d ≡ Ok Add → ⊥) → (answer (cell_of s (Request n)) d ≡ Ok Bad → ⊥) → Ignores s n d
request_ignored s n d na nb =
    let r = by_cell s (int_lt (pos 0) n) (unsigned_abs n) d na nb in
    record { was = r.0; state = r.1; asked = r.2; sent = r.3 }
  where
    by_cell : (s : State) (b : Bool) (k : ℕ) (d : Demand) → (answer (cell s (requests b k)) d ≡ Ok Add → ⊥) → (answer (cell s (requests b k)) d ≡ Ok Bad → ⊥) →
        (s ≡ Open → ⊥) × (next_state (cell s (requests b k)) s ≡ s) × (asked_after (cell s (requests b k)) d ≡ d.asked) × (sent_after (cell s (requests b k)) d ≡ d.sent)
    by_cell Open true k d na nb = absurd (na refl)
    by_cell Open false k d na nb = absurd (nb refl)
    by_cell Fresh true k d na nb = (λ e. cc, refl, refl, refl)
    by_cell Fresh false k d na nb = (λ e. cc, refl, refl, refl)
    by_cell Cancelled true k d na nb = (λ e. cc, refl, refl, refl)
    by_cell Cancelled false k d na nb = (λ e. cc, refl, refl, refl)
    by_cell Done true k d na nb = (λ e. cc, refl, refl, refl)
    by_cell Done false k d na nb = (λ e. cc, refl, refl, refl)
    by_cell Failed true k d na nb = (λ e. cc, refl, refl, refl)
    by_cell Failed false k d na nb = (λ e. cc, refl, refl, refl)

-- ---- a signal

-- what the delivery of a signal does
pub record Delivers {T : Type 0} (s : State) (t : Signal T) (d : Demand) : Type 0 where
  pub was : s ≡ Open
  pub state : standing (next_state (cell_of s (input_of t)) s) true ≡ state_after (standing s true) t
  pub asked : asked_after (cell_of s (input_of t)) d ≡ d.asked
  pub sent : sent_after (cell_of s (input_of t)) d ≡ d.sent + length (items_in (t ∷ []))

pub signal_delivered : {T : Type 0} (s : State) (t : Signal T) (d : Demand) → answer (cell_of s (input_of t)) d ≡ Ok Deliver → Delivers s t d
signal_delivered Open (Next x) d e = let n = within (nat_lt d.sent d.asked) refl e in record { was = refl; state = refl; asked = refl; sent = ap (λ b. if b then d.sent + 1 else d.sent) n }
  where
    within : (b : Bool) → nat_lt d.sent d.asked ≡ b → (if b then Ok Deliver else Err Overrun) ≡ Ok Deliver → nat_lt d.sent d.asked ≡ true
    within true i e = i
    within false i e = cc
signal_delivered Open Complete d e = record { was = refl; state = refl; asked = refl; sent = sym (add-zero d.sent) }
signal_delivered Open (Error c) d e = record { was = refl; state = refl; asked = refl; sent = sym (add-zero d.sent) }
signal_delivered Fresh (Next x) d e = cc
signal_delivered Fresh Complete d e = cc
signal_delivered Fresh (Error c) d e = cc
signal_delivered Cancelled (Next x) d e = cc
signal_delivered Cancelled Complete d e = cc
signal_delivered Cancelled (Error c) d e = cc
signal_delivered Done (Next x) d e = cc
signal_delivered Done Complete d e = cc
signal_delivered Done (Error c) d e = cc
signal_delivered Failed (Next x) d e = cc
signal_delivered Failed Complete d e = cc
signal_delivered Failed (Error c) d e = cc

pub delivery_made : (r : Result Effect Refusal) → is_delivery r ≡ true → r ≡ Ok Deliver
delivery_made (Ok Opened) e = cc
delivery_made (Ok Deliver) e = refl
delivery_made (Ok Add) e = cc
delivery_made (Ok Bad) e = cc
delivery_made (Ok Close) e = cc
delivery_made (Ok Drop) e = cc
delivery_made (Ok Nothing) e = cc
delivery_made (Err r) e = cc

-- the delivery of an item counts it as sent, and changes nothing else
pub item_delivered : (s : State) (d : Demand) → is_delivery (answer (cell_of s Item) d) ≡ true → (next_state (cell_of s Item) s ≡ s) × (asked_after (cell_of s Item) d ≡ d.asked) × (sent_after (cell_of s Item) d ≡ d.sent + 1)
item_delivered Open d e = (refl, refl, ap (λ b. if b then d.sent + 1 else d.sent) (within (nat_lt d.sent d.asked) refl e))
  where
    within : (b : Bool) → nat_lt d.sent d.asked ≡ b → is_delivery (if b then Ok Deliver else Err Overrun) ≡ true → nat_lt d.sent d.asked ≡ true
    within true i e = i
    within false i e = cc
item_delivered Fresh d e = cc
item_delivered Cancelled d e = cc
item_delivered Done d e = cc
item_delivered Failed d e = cc

-- an open subscription is delivered an item within its demand, and any ending
pub open_delivers : {T : Type 0} (d : Demand) (t : Signal T) (q : List (Signal T)) → ((x : T) → t ≡ Next x → d.sent < d.asked) → delivers Open d (t ∷ q) ≡ true
open_delivers d (Next x) q h = by_test (nat_lt d.sent d.asked) (lt-ltb d.sent d.asked (h x refl))
  where
    by_test : (b : Bool) → b ≡ true → is_delivery (if b then Ok Deliver else Err Overrun) ≡ true
    by_test true e = refl
    by_test false e = cc
open_delivers d Complete q h = refl
open_delivers d (Error c) q h = refl
