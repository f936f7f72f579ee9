-- What the ends of links have passed on.
use Rattle.std.specs.Prelude.{◌≡◌, ◌⊎◌, ℕ, ◌+◌, ◌-◌, ◌≤◌, Bool, true, ◌||◌, List, [], ◌∷◌, ◌++◌, length, Some, None, slice_get, min}
use Rattle.std.specs.Option.{option_to_list}
use Rattle.rsx_demand.specs.declared.TheConstants.{UNBOUNDED}
use Rattle.rsx_link.specs.Ends.{carried_up, free_slots, items_sent, received_signals, seen_total, sent_signals, up_steps}
use Rattle.rsx_link.specs.Steps.{flags_of, has_cancel, has_refusal}
use Rattle.rsx_link.specs.declared.up.Up.{Up}
use Rattle.rsx_types.specs.declared.names.SubId.{SubId}
use Rattle.rsx_types.specs.declared.signal.Signal.{Signal}
use Rattle.rsx_serialized.specs.Events.{Event, asked_in, given_in, published_in, signals_for, stopped_in}
use Rattle.rsx_serialized.specs.declared.ends.FromEmitter.{FromEmitter}
use Rattle.rsx_serialized.specs.declared.ends.ToTap.{ToTap}

-- this holds of the elements of two lists that stand at one place, and there are as many of them
pub record Beside {X Y : Type 0} (P : ℕ → X → Y → Type 0) (xs : List X) (ys : List Y) : Type 0 where
  pub count : length ys ≡ length xs
  pub each : (k : ℕ) (x : X) (y : Y) → slice_get xs k ≡ Some x → slice_get ys k ≡ Some y → P k x y

-- this holds of the elements of two lists that stand at one place, and there are no more of the second
pub record BesideFew {X Y : Type 0} (P : ℕ → X → Y → Type 0) (xs : List X) (ys : List Y) : Type 0 where
  pub few : length ys ≤ length xs
  pub each : (k : ℕ) (x : X) (y : Y) → slice_get xs k ≡ Some x → slice_get ys k ≡ Some y → P k x y

module _ {T : Type 0} where
  -- a flag of the link was seen
  abbrev pub is_flagged : Up T → Bool
  is_flagged u = has_cancel (flags_of (up_steps u)) || has_refusal (flags_of (up_steps u))

  -- ---- what comes from an emitter

  -- these signals are taken and not passed on, the oldest first
  abbrev pub held : FromEmitter T → List (Signal T)
  held i = option_to_list i.waiting

  -- this signal comes next, and nothing waits then
  pub record Gives (old : FromEmitter T) (signal : Signal T) (new : FromEmitter T) : Type 0 where
    pub hub : new.hub ≡ old.hub
    pub came : List (Signal T)
    pub received : received_signals new.down ≡ received_signals old.down ++ came
    pub next : held old ++ came ≡ signal ∷ []
    pub none : new.waiting ≡ None
    pub seat : new.seat ≡ old.seat

  -- these things have happened: what waited and what came since was published, but for what waits now
  pub record InletGoes (es : List (Event T)) (old new : FromEmitter T) : Type 0 where
    pub hub : new.hub ≡ old.hub
    pub came : List (Signal T)
    pub received : received_signals new.down ≡ received_signals old.down ++ came
    pub published : held old ++ came ≡ published_in old.hub.0 es ++ held new
    pub seat : new.seat ≡ old.seat

  -- ---- what goes to a tap

  -- What was asked for was passed on, as far as it was seen, but for what the queue has no room for beside an ending: as many items as it
  -- has places but one are asked for and not sent.
  pub record IsPassedOn (o : ToTap T) : Type 0 where
    pub most : o.asked ≤ min UNBOUNDED (seen_total o.up)
    pub rest : (o.asked ≡ min UNBOUNDED (seen_total o.up)) ⊎ (free_slots o.up ≤ o.asked - items_sent o.up + 1)

  -- These things have happened to the subscriber with this number: what waited for it, and what was delivered to it since, was sent, but
  -- for what waits for it now. It asked for what the end says, and it was cancelled only where the end saw a flag.
  pub record OutletGoes (k : ℕ) (es : List (Event T)) (before after : List (SubId × Signal T)) (old new : ToTap T) : Type 0 where
    pub carried : carried_up new.up ≡ carried_up old.up
    pub sent : List (Signal T)
    pub signals : sent_signals new.up ≡ sent_signals old.up ++ sent
    pub delivered : signals_for k before ++ given_in k es ≡ sent ++ signals_for k after
    pub asked : new.asked ≡ asked_in k old.asked es
    pub flagged : is_flagged old.up ≡ true → is_flagged new.up ≡ true
    pub stopped : stopped_in k es ≡ true → is_flagged new.up ≡ true
