-- Moves of subscriptions that stand in rows.
use Rattle.rsx_sources.specs.declared.machine.Machine.{Ghosts as Machine}
use Rattle.rsx_rooted.specs.declared.nodes.Nodes.{Ghosts as Nodes}
use Rattle.std.specs.Prelude.{ℕ, List, Result}
use Rattle.rsx_rooted.specs.declared.rooted.Pumped.{Pumped as Rest}
use Rattle.rsx_graph_state.specs.Prelude.{Delivered, Subscription, AllPumped, HasRestedAt, HaveRested}
use Rattle.rsx_types.specs.Meaning.{Meaning}
use Rattle.rsx_graph_state.specs.declared.refusal.Refusal.{Refusal}

-- the moves of subscriptions alone
abbrev pub HasDriven : {M T : Type 0} → Machine M T → Nodes M T → Meaning T → ℕ → List (Subscription M T) → Delivered T → Result Rest Refusal → List (Subscription M T) → Delivered T → Type 0
HasDriven mc kd m budget old before result new after = (n : ℕ) × HaveRested mc kd m budget n new result × AllPumped mc kd m n old before.signals new after.signals

-- those of the subscription with this number
abbrev pub HasDrivenAt : {M T : Type 0} → Machine M T → Nodes M T → Meaning T → ℕ → ℕ → List (Subscription M T) → Delivered T → Result Rest Refusal → List (Subscription M T) → Delivered T → Type 0
HasDrivenAt mc kd m i budget old before result new after = (n : ℕ) × HasRestedAt mc kd m budget n old i new result × AllPumped mc kd m n old before.signals new after.signals
