-- The Take of a subscription's root, whose signal goes into a list of deliveries.
use Rattle.std.specs.Prelude.{◌≡◌, [], ◌∷◌, ◌++◌}
use Rattle.rsx_sources.specs.declared.machine.Machine.{Ghosts as Machine}
use Rattle.rsx_sources.specs.Prelude.{Meaning, SubId, Signal}
use Rattle.rsx_subscriber.specs.Delivered.{Delivered}
use Rattle.rsx_subscriber.specs.Past.{given}
use Rattle.rsx_subscriber.specs.Stands.{IsTake, StandsAfter}
use Rattle.rsx_subscriber.specs.declared.subscription.Subscription.{Subscription}

-- the front signal of the queue was delivered to the subscriber with this number, and stands behind what was delivered before; the
-- subscription stands for its past with that signal received
pub record IsTakenInto {M T : Type 0} (mc : Machine M T) (id : SubId) (old : Subscription M T) (before : Delivered T) (new : Subscription M T) (after : Delivered T) : Type 0 where
  pub signal : Signal T
  pub effect : IsTake old signal new
  pub output : after.signals ≡ before.signals ++ (id, signal) ∷ []
  pub stands : (m : Meaning T) → StandsAfter mc m (given signal) old new
