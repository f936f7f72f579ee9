-- The headline, over the definitions alone.
use Rattle.rsx_sources.specs.declared.machine.Machine.{Ghosts as Machine}
use Rattle.std.specs.Prelude.{List, [], ◌∷◌}
use Rattle.rsx_sources.specs.Prelude.{Meaning, Stream}
use Rattle.rsx_subscriber.specs.declared.subscription.Subscription.{Subscription}
use Rattle.rsx_subscriber.specs.Prelude.{Holds, Past}

-- the sentence for each subscriber
abbrev pub AllHold : {M T : Type 0} → Machine M T → Meaning T → List (Stream T) → List (Subscription M T) → List (Past T) → Type 0
AllHold mc m published [] [] = Unit {0}
AllHold mc m published (s ∷ ss) (p ∷ ps) = Holds mc m published s p × AllHold mc m published ss ps
AllHold mc m published [] (p ∷ ps) = ⊥
AllHold mc m published (s ∷ ss) [] = ⊥
