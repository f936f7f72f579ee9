-- A subscription to whose nodes a signal of a hub is handed.
use Rattle.rsx_sources.specs.declared.machine.Machine.{Ghosts as Machine}
use Rattle.std.specs.Prelude.{◌≡◌, ℕ, true, List}
use Rattle.rsx_sources.specs.Prelude.{Meaning, Stream, Signal, Next}
use Rattle.rsx_pipe.specs.Output.{IsOpenAt, with_signal_at}
use Rattle.rsx_pipe.specs.Published as Part
use Rattle.rsx_subscriber.specs.declared.subscription.Subscription.{Subscription}
use Rattle.rsx_subscriber.specs.Past.{Past}
use Rattle.rsx_subscriber.specs.Stands.{Stands, IsKeptBeside}

-- each node of its part that reads the hub took the signal in, and nothing else changed
pub record IsHanded {M T : Type 0} (mc : Machine M T) (h : ℕ) (s : Signal T) (old new : Subscription M T) : Type 0 where
  pub part : Part.IsHanded mc h s old.part new.part
  pub queue : new.queue ≡ old.queue
  pub kept : IsKeptBeside old new
  -- the subscription stands for the same past, where the hub published that signal besides
  pub stands : (m : Meaning T) (published : List (Stream T)) (past : Past T) → IsOpenAt h published → Stands mc m published old past → Stands mc m (with_signal_at h s published) new past

-- ---- several items at once

-- all nodes of its part that read the hub had room for an item of it, and took it in
pub record IsItemHanded {M T : Type 0} (mc : Machine M T) (h : ℕ) (old : Subscription M T) (x : T) (new : Subscription M T) : Type 0 where
  pub room : Part.has_room_for mc h old.part ≡ true
  pub handed : IsHanded mc h (Next x) old new
