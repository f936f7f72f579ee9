-- What contracts see of a link's ends.
use Rattle.std.specs.Prelude.{◌≡◌, ◌≢◌, ◌⊎◌, ℕ, ◌+◌, ◌<◌, ◌≤◌, true, false, cond, nat_eq, List, [], ◌∷◌, ◌++◌, Option, Some, None}
use mathlib.Core.List.{IsPrefix}
use Rattle.atomic_table.specs.declared.shared.Seat.{Seat}
use Rattle.atomic_table.specs.Table.{step}
use mathlib.Core.Option.{none}
use Rattle.std.specs.Global.{Global}
use Rattle.rtrb.specs.declared.AnyItems.{AnyItems}
use Rattle.rtrb.specs.declared.consumer.Consumer.{Consumer}
use Rattle.rtrb.specs.declared.producer.Producer.{Producer}
use Rattle.rtrb.specs.Ring.{sent, received, known_free, producer_capacity, known_items, IsPair, SameProducer}
use Rattle.rsx_demand.specs.Demand.{saturating_total}
use Rattle.rsx_types.specs.declared.signal.Signal.{Signal}
use Rattle.rsx_types.specs.declared.signal.Signal.TheVariants.{Error}
use Rattle.rsx_types.specs.declared.signal.Cause.TheVariants.{NonPositiveRequest}
use Rattle.rsx_link.specs.declared.cancel.CancelSeat.{CancelSeat}
use Rattle.rsx_link.specs.declared.closed.Closed.{Closed}
use Rattle.rsx_link.specs.declared.down.Down.{Down}
use Rattle.rsx_link.specs.declared.link.Link.{Link}
use Rattle.rsx_link.specs.declared.up.Found.{Found}
use Rattle.rsx_link.specs.declared.up.Up.{Up}
use Rattle.rsx_link.specs.declared.view.Role.{Role}
use Rattle.rsx_link.specs.declared.view.Role.TheVariants.{Canceller}
use Rattle.rsx_link.specs.declared.view.Step.{Step}
use Rattle.rsx_link.specs.declared.view.Step.TheVariants.{Ask, SeeAsked, SeeFlags, Cancel, Refuse}
use Rattle.rsx_link.specs.declared.view.View.{View}
use Rattle.rsx_link.specs.Link.{newborn, total, is_positive}
use Rattle.rsx_link.specs.Parts.{IsWhole, halved}
use Rattle.rsx_link.specs.Plays.{Told}
use Rattle.rsx_link.specs.Signals.{is_item, items_in}
use Rattle.rsx_link.specs.Steps.{has_cancel, has_refusal, asked_of, seen_of, flags_of, cancel_count, is_refused}

-- the same seat after one step that it was told of
abbrev pub Stepped : Told → ℕ → Seat Unit View → Seat Unit View → Type 0
Stepped told n s s' = (s'.table_id ≡ s.table_id) × (s'.id ≡ s.id) × told (step 0 0 0 0 none) s.me n s'.me

-- the same seat, which knows this now
abbrev pub IsSeatWith : View → Seat Unit View → Seat Unit View → Type 0
IsSeatWith v s s' = (s'.table_id ≡ s.table_id) × (s'.id ≡ s.id) × (s'.me ≡ (v, s.me.1))

module _ {T : Type 0} where
  -- a seat of this link with this role
  abbrev pub IsSeatFor : Role → Link T → Seat Unit View → Type 0
  IsSeatFor role l s = (s.table_id ≡ l.table.shared.table_id) × (s.me.0.role ≡ role)

  -- a canceller's seat of this link, with some part of the right to cancel
  abbrev pub MayCancel : Link T → Seat Unit View → Type 0
  MayCancel l s = (s.table_id ≡ l.table.shared.table_id) × (s.me.0.role ≡ Canceller) × (s.me.0.parts ≢ [])

  -- ---- the sending end

  abbrev pub up_steps : Up T → List Step
  up_steps u = u.seat.me.0.steps

  -- every signal that was put into the queue, the oldest first
  abbrev pub sent_signals : Up T → List (Signal T)
  sent_signals u = sent u.producer

  -- how many items went over the edge before the link was made
  abbrev pub carried_up : Up T → ℕ
  carried_up u = u.carried

  -- the items sent, with those
  abbrev pub items_sent : Up T → ℕ
  items_sent u = carried_up u + items_in (sent_signals u)

  -- the total asked for that was seen last
  abbrev pub seen_total : Up T → ℕ
  seen_total u = seen_of (up_steps u)

  -- how many places of the queue the end knows to be free
  abbrev pub free_slots : Up T → ℕ
  free_slots u = known_free u.producer

  abbrev pub IsUpOf : Link T → Up T → Type 0
  IsUpOf l u = (u.seat.table_id ≡ l.table.shared.table_id) × SameProducer l.table.shared.key u.producer

  -- an item needs demand that was seen; an ending needs none
  abbrev pub MaySend : Up T → Signal T → Type 0
  MaySend u s = is_item s ≡ true → items_sent u < seen_total u

  abbrev pub SameUp : Link T → Up T → Up T → Type 0
  SameUp l old new = IsUpOf l new × (up_steps new ≡ up_steps old) × (carried_up new ≡ carried_up old)

  -- the same end, which has sent nothing more
  abbrev pub HasSentNothing : Link T → Up T → Up T → Type 0
  HasSentNothing l old new = IsUpOf l new × (sent_signals new ≡ sent_signals old) × (free_slots new ≡ free_slots old) × (carried_up new ≡ carried_up old)

  -- the queue has no room: the signal came back, and nothing was sent
  abbrev pub ComesBack : Up T → Up T → Signal T → Signal T → Type 0
  ComesBack old new signal back = (back ≡ signal) × (sent_signals new ≡ sent_signals old) × (free_slots new ≡ 0)

-- a step on the total and then one on the flags, which show no less than was seen before
pub record Looks (old new : List Step) (found : Found) : Type 0 where
  pub flags : ℕ
  pub steps : new ≡ SeeFlags flags ∷ SeeAsked found.asked ∷ old
  pub cancelled : found.cancelled ≡ has_cancel flags
  pub refused : found.refused ≡ has_refusal flags
  pub rises : seen_of old ≤ found.asked
  pub stays_cancelled : has_cancel (flags_of old) ≡ true → found.cancelled ≡ true
  pub stays_refused : has_refusal (flags_of old) ≡ true → found.refused ≡ true

module _ {T : Type 0} where
  -- ---- the receiving end

  abbrev pub down_steps : Down T → List Step
  down_steps d = d.seat.me.0.steps

  -- every signal that was taken, the oldest first
  abbrev pub received_signals : Down T → List (Signal T)
  received_signals d = received d.consumer

  -- how many items were taken before the link was made
  abbrev pub carried_down : Down T → ℕ
  carried_down d = d.carried

  -- the items taken, with those
  abbrev pub items_taken : Down T → ℕ
  items_taken d = carried_down d + items_in (received_signals d)

  abbrev pub asked_total : Down T → ℕ
  asked_total d = asked_of (down_steps d)

  -- the signals that the end has seen in the queue
  abbrev pub queued : Down T → List (Signal T)
  queued d = known_items d.consumer

  abbrev pub IsDownOf : Link T → Down T → Type 0
  IsDownOf l d = (d.seat.table_id ≡ l.table.shared.table_id) × IsPair l.table.shared.key d.consumer

  -- the same end, which has made no step and taken no signal, and has seen no signal less in the queue
  abbrev pub HasLooked : Link T → Down T → Down T → Type 0
  HasLooked l old new = IsDownOf l new × (down_steps new ≡ down_steps old) × (received_signals new ≡ received_signals old) × IsPrefix (queued old) (queued new)
      × (carried_down new ≡ carried_down old)

  -- the same end, which has made no step and taken no signal
  abbrev pub SameDown : Link T → Down T → Down T → Type 0
  SameDown l old new = IsDownOf l new × (received_signals new ≡ received_signals old) × (queued new ≡ queued old) × (carried_down new ≡ carried_down old)

  -- an item needs demand; an ending needs none
  abbrev pub MayTake : Down T → Signal T → Type 0
  MayTake d s = is_item s ≡ true → items_taken d < asked_total d

  -- the oldest signal was taken; an item only where fewer were taken than asked for
  pub record TakesOne (old new : Down T) (signal : Signal T) : Type 0 where
    pub received : received_signals new ≡ received_signals old ++ signal ∷ []
    pub oldest : IsPrefix (queued old) (signal ∷ queued new)
    pub may : MayTake old signal

  -- no signal is there, or the oldest is an item, and as many were taken as asked for
  abbrev pub Waits : Down T → List (Signal T) → Type 0
  Waits d [] = Unit {0}
  Waits d (s ∷ ss) = (is_item s ≡ true) × (items_taken d ≡ asked_total d)

  -- no signal is there, or the oldest is an ending, or as many items were taken as asked for
  abbrev pub OffersNone : Down T → List (Signal T) → Type 0
  OffersNone d [] = Unit {0}
  OffersNone d (s ∷ ss) = (is_item s ≡ false) ⊎ (items_taken d ≡ asked_total d)

  pub record TakesNone (old new : Down T) : Type 0 where
    pub received : received_signals new ≡ received_signals old
    pub queue : IsPrefix (queued old) (queued new)
    pub waits : Waits new (queued new)

  -- the error of a bad request, where it found neither flag
  abbrev pub refusal_at : ℕ → Option (Signal T)
  refusal_at found = cond (nat_eq found 0) (Some (Error NonPositiveRequest)) None

  pub record Asks (items : ℕ) (old new : List Step) (answer : Option (Signal T)) : Type 0 where
    pub steps : new ≡ Ask (saturating_total (asked_of old) items) ∷ old
    pub none : answer ≡ None

  pub record Refuses (old new : List Step) (answer : Option (Signal T)) : Type 0 where
    pub found : ℕ
    pub steps : new ≡ Refuse found ∷ old
    pub again : has_refusal found ≡ is_refused old
    pub answered : answer ≡ refusal_at found

  -- a good request raises the total; a bad one sets flag 2
  abbrev pub Requests : Option ℕ → List Step → List Step → Option (Signal T) → Type 0
  Requests (Some items) = Asks items
  Requests None = Refuses

-- ---- the cancellers

abbrev pub cancel_steps : CancelSeat → List Step
cancel_steps c = c.seat.me.0.steps

-- the steps of the seats that were joined into this one
abbrev pub cancel_beside : CancelSeat → List (List Step)
cancel_beside c = c.seat.me.0.beside

-- its parts of the right to cancel: a number n stands for one part of 2^n
abbrev pub cancel_parts : CancelSeat → List ℕ
cancel_parts c = c.seat.me.0.parts

-- how often a seat cancelled, or those that were joined into it
abbrev pub cancels_of : CancelSeat → ℕ
cancels_of c = total cancel_count (cancel_steps c ∷ cancel_beside c)

abbrev pub IsCancelSeatOf : {T : Type 0} → Link T → CancelSeat → Type 0
IsCancelSeatOf l c = c.seat.table_id ≡ l.table.shared.table_id

-- the same seat of the link, with the parts and the joined steps that it had
abbrev pub KeepsParts : {T : Type 0} → Link T → CancelSeat → CancelSeat → Type 0
KeepsParts l old new = IsCancelSeatOf l new × (cancel_beside new ≡ cancel_beside old) × (cancel_parts new ≡ cancel_parts old)

-- the same seat of the link, with all steps that it had
abbrev pub KeepsSteps : {T : Type 0} → Link T → CancelSeat → CancelSeat → Type 0
KeepsSteps l old new = IsCancelSeatOf l new × (cancel_steps new ≡ cancel_steps old) × (cancel_beside new ≡ cancel_beside old)

-- two seats that have half of one seat's parts each
abbrev pub AreHalves : CancelSeat → CancelSeat → CancelSeat → Type 0
AreHalves old c d = (cancel_parts c ≡ halved (cancel_parts old)) × (cancel_parts d ≡ halved (cancel_parts old))

-- one step more; who has cancelled before finds flag 1
pub record Cancels (old : CancelSeat) (new : List Step) : Type 0 where
  pub found : ℕ
  pub steps : new ≡ Cancel found ∷ cancel_steps old
  pub again : 0 < cancels_of old → has_cancel found ≡ true

module _ {T : Type 0} where
  -- ---- both ends

  -- how many signals the queue holds at most
  abbrev pub capacity_of : Link T → ℕ
  capacity_of l = producer_capacity l.table.shared.key

  -- a link as it is made, with these steps of its ends, over whose edge so many items went before
  pub record AreMade (capacity carried : ℕ) (seen asked : List Step) (l : Link T) (u : Up T) (d : Down T) (c : CancelSeat) : Type 0 where
    pub up : IsUpOf l u × (up_steps u ≡ seen) × (carried_up u ≡ carried) × (sent_signals u ≡ []) × (free_slots u ≡ capacity)
    pub down : IsDownOf l d × (down_steps d ≡ asked) × (carried_down d ≡ carried) × (received_signals d ≡ []) × (queued d ≡ [])
    pub cancel : IsCancelSeatOf l c × (cancel_steps c ≡ []) × (cancel_beside c ≡ []) × (cancel_parts c ≡ 0 ∷ [])
    pub holds : capacity_of l ≡ capacity

  -- nothing was asked for
  abbrev pub AreNew : ℕ → Link T → Up T → Down T → CancelSeat → Type 0
  AreNew capacity = AreMade capacity 0 [] []

  -- so many items were asked for, which the sending end has seen, and so many of them were taken
  abbrev pub AreOpened : ℕ → ℕ → ℕ → Link T → Up T → Down T → CancelSeat → Type 0
  AreOpened capacity asked carried = AreMade capacity carried (SeeAsked asked ∷ []) (Ask asked ∷ [])

  -- the two words at 0, both ends of the queue, and the first seat
  pub record AreBegun (capacity : ℕ) (l : Link T) (p : Producer (Signal T) Global AnyItems) (c : Consumer (Signal T) Global AnyItems) (s : Seat Unit View) : Type 0 where
    pub ring : (l.table.shared.key ≡ p) × IsPair p c
    pub empty : (sent p ≡ []) × (known_free p ≡ capacity) × (producer_capacity p ≡ capacity) × (received c ≡ []) × (known_items c ≡ [])
    pub seat : (s.table_id ≡ l.table.shared.table_id) × (s.me ≡ (newborn, []))

  abbrev pub AreEnds : Link T → Up T → Down T → CancelSeat → Type 0
  AreEnds l u d c = IsUpOf l u × IsDownOf l d × IsCancelSeatOf l c

  pub record Closes (u : Up T) (d : Down T) (c : CancelSeat) (r : Closed T) : Type 0 where
    -- what was taken, and then what remains, is what was sent
    pub signals : received_signals d ++ r.remaining ≡ sent_signals u
    pub asked : r.asked ≡ asked_total d
    pub seen : seen_total u ≤ r.asked
    pub refused : r.refused ≡ is_refused (down_steps d)
    pub refusal_seen : has_refusal (flags_of (up_steps u)) ≡ true → r.refused ≡ true
    pub cancelled : 0 < cancels_of c → r.cancelled ≡ true
    -- all cancel seats are in this one
    pub whole : IsWhole (cancel_parts c) → r.cancelled ≡ is_positive (cancels_of c)
    pub cancel_seen : has_cancel (flags_of (up_steps u)) ≡ true → r.cancelled ≡ true
