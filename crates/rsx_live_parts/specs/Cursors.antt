-- Places among the senders of a tree.
use Rattle.std.specs.Prelude.{◌+◌, ◌-◌, ◌^◌, ℕ, min, nat_lt, if◌then◌else◌, List, slice_get}
use Rattle.std.specs.Option.{option_and_then, unwrap_or}
use Rattle.std.proofs.Common.{Vec, Global}
use Rattle.rsx_runtime.specs.declared.tap.Tap.{Tap}
use Rattle.rsx_live_parts.specs.declared.cutting.Cursor.{Cursor}

-- a region that isn't there counts as region 0
abbrev pub region_in : ℕ → ℕ → ℕ
region_in count region = if nat_lt region count then region else 0

-- the region of the sender at this place, 0 where there is none
abbrev pub sender_at : List (Vec ℕ Global) → Cursor → ℕ
sender_at senders c = unwrap_or (option_and_then (λ v. slice_get v.items c.passed) (slice_get senders c.tree)) 0

-- the region of the root of the tree with this number, 0 where there is none
abbrev pub root_at : List ℕ → ℕ → ℕ
root_at roots tree = unwrap_or (slice_get roots tree) 0

-- the place behind so many senders more
abbrev pub passed_by : ℕ → Cursor → Cursor
passed_by n c = record { tree = c.tree; passed = min (c.passed + n) (2 ^ 64 - 1) }

module _ {T : Type 0} where
  -- the region in which the root of the tree of a tap is
  abbrev pub root_in : ℕ → List ℕ → Tap T → ℕ
  root_in count roots t = region_in count (root_at roots t.sub.0)

  -- the place before all senders of that tree
  abbrev pub first_of : Tap T → Cursor
  first_of t = record { tree = t.sub.0; passed = 0 }
