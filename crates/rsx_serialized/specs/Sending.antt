-- The signal that was delivered first is sent to its tap.
use Rattle.std.specs.Prelude.{◌≡◌, ℕ, Bool, true, false, List, [], ◌∷◌, ◌++◌}
use Rattle.rsx_link.specs.Ends.{IsUpOf, carried_up, sent_signals, up_steps}
use Rattle.rsx_link.specs.declared.link.Link.{Link}
use Rattle.rsx_types.specs.declared.names.SubId.{SubId}
use Rattle.rsx_types.specs.declared.signal.Signal.{Signal}
use Rattle.rsx_serialized.specs.Ends.{IsPassedOn}
use Rattle.rsx_serialized.specs.declared.ends.ToTap.{ToTap}

module _ {T : Type 0} where
  -- the first of these goes to the subscription with this number
  abbrev pub IsFirstFor : ℕ → List (SubId × Signal T) → Type 0
  IsFirstFor n [] = ⊥
  IsFirstFor n (d ∷ ds) = n ≡ d.0.0

  -- the end of the same link, which has made no step; what was asked for is passed on where it was so
  pub record IsOffered (link : Link T) (old new : ToTap T) : Type 0 where
    pub end : IsUpOf link new.up
    pub steps : up_steps new.up ≡ up_steps old.up
    pub carried : carried_up new.up ≡ carried_up old.up
    pub asked : new.asked ≡ old.asked
    pub passed : IsPassedOn old → IsPassedOn new

  -- the first of these was sent, and the others wait; or nothing was sent
  abbrev pub SendsFirst : Bool → List (SubId × Signal T) → List (SubId × Signal T) → ToTap T → ToTap T → Type 0
  SendsFirst true before after old new = (d : SubId × Signal T) × (before ≡ d ∷ after) × (sent_signals new.up ≡ sent_signals old.up ++ d.1 ∷ [])
  SendsFirst false before after old new = (after ≡ before) × (sent_signals new.up ≡ sent_signals old.up)
