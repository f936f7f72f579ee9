-- Which subscriptions are idle.
use Rattle.rsx_sources.specs.declared.machine.Machine.{Ghosts as Machine}
use Rattle.std.specs.Prelude.{◌≡◌, ℕ, List, Some, slice_get}
use Rattle.std.specs.Coded.{×_prop, Π_prop, Coded-set, coded_bool, coded_ℕ}
use Rattle.rsx_types.specs.Meaning.{Meaning}
use Rattle.rsx_pipe.specs.Published.{readers}
use Rattle.rsx_subscriber.specs.Pumped.{IsQuiet}
use Rattle.rsx_subscriber.specs.declared.subscription.Subscription.{Subscription}
use Rattle.rsx_graph_moves.specs.IdleSet.{IsApart, IsIn}
use Rattle.rsx_graph_moves.specs.declared.idle_set.IdleSet.{IdleSet}

-- of each subscription whose number is in the set no move is enabled, and no node reads a hub that is known not to be read
unfoldable pub AreIdle : {M T : Type 0} → Machine M T → Meaning T → IdleSet → List (Subscription M T) → Type 0
AreIdle {M} {T} mc m idle subs = (i : ℕ) → IsIn idle i → (s : Subscription M T) → slice_get subs i ≡ Some s → IsQuiet mc m s × ((h : ℕ) → IsApart idle h i → readers mc h s.part ≡ 0)

-- which is a fact with one proof at most
pub AreIdle-prop : {M T : Type 0} (mc : Machine M T) (m : Meaning T) (idle : IdleSet) (subs : List (Subscription M T)) → IsProp (AreIdle mc m idle subs)
unfolding AreIdle
AreIdle-prop mc m idle subs = Π_prop λ i. Π_prop λ within. Π_prop λ s. Π_prop λ there. ×_prop (×_prop (Π_prop λ move. Π_prop λ small. Coded-set coded_bool _ _) (Coded-set coded_bool _ _)) (Π_prop λ h. Π_prop λ apart. Coded-set coded_ℕ _ _)
