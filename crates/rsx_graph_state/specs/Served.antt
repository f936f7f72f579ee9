-- What a graph's subscribers got where no move is enabled.
use Rattle.rsx_sources.specs.declared.machine.Machine.{Ghosts as Machine}
use Rattle.std.specs.Prelude.{◌≡◌, ◌⊎◌, List, [], ◌∷◌, Some}
use Rattle.rsx_sources.specs.Prelude.{Meaning, Stream}
use Rattle.rsx_subscriber.specs.Prelude.{HasReadAll, IsWithin, notes_of, IsServed, Past, IsLive}
use Rattle.rsx_subscriber.specs.declared.subscription.Subscription.{Subscription}
use Rattle.rsx_subscriber.specs.Stands.{evaluated}

-- a subscriber's expression reads no hub, or each node of its tree that reads one has got all that was published there, where it
-- offers nothing, though more is asked over its edge than it sent, and can make no step
abbrev pub HasGotAll : {M T : Type 0} → Machine M T → Meaning T → List (Stream T) → Subscription M T → Past T → Type 0
HasGotAll mc m published s p = (p.joins ≡ []) ⊎ HasReadAll mc m published s.part

-- each live subscriber did of which that holds, as long as no edge of its tree has carried 2^63-1 items and each of its nodes has a
-- number
abbrev pub AllServed : {M T : Type 0} → Machine M T → Meaning T → List (Stream T) → List (Subscription M T) → List (Past T) → Type 0
AllServed mc m published [] [] = Unit {0}
AllServed {M} {T} mc m published (s ∷ ss) (p ∷ ps) =
    (IsLive p.state → HasGotAll mc m published s p → IsWithin s.part.tree → (v : Stream T) → evaluated m published p (notes_of mc s.part.tree) ≡ Some v → IsServed s p v) × AllServed mc m published ss ps
AllServed mc m published [] (p ∷ ps) = ⊥
AllServed mc m published (s ∷ ss) [] = ⊥

-- each node that reads a hub has got all that was published there, where it offers nothing, though more is asked over its edge than
-- it sent, and can make no step
abbrev pub AllHaveRead : {M T : Type 0} → Machine M T → Meaning T → List (Stream T) → List (Subscription M T) → Type 0
AllHaveRead mc m published [] = Unit {0}
AllHaveRead mc m published (s ∷ ss) = HasReadAll mc m published s.part × AllHaveRead mc m published ss
