-- What each step tells its seat.
use Rattle.std.specs.Prelude.{◌≡◌, ℕ, ◌<◌, ◌≤◌, true}
use Rattle.atomic_table.specs.Table.{Me}
use Rattle.atomic_table.specs.Table as table
use Rattle.rsx_link.specs.declared.view.View.{View}
use Rattle.rsx_link.specs.declared.view.Step.TheVariants.{Ask, SeeAsked, SeeFlags, Cancel, Refuse}
use Rattle.rsx_link.specs.Steps.{has_cancel, has_refusal, seen_of, flags_of, is_refused}
use Rattle.rsx_link.specs.Link.{more, view_cancels}

abbrev pub Told : Type 1
Told = table.Step Unit → Me Unit View → ℕ → Me Unit View → Type 0

abbrev pub asked : Told
asked st m n w = w ≡ (more m.0 (Ask n), m.1)

-- no total is smaller than one that was seen before
abbrev pub saw_asked : Told
saw_asked st m n w = (w ≡ (more m.0 (SeeAsked n), m.1)) × (seen_of m.0.steps ≤ n)

-- a flag that was seen stays set
abbrev pub saw_flags : Told
saw_flags st m n w = (w ≡ (more m.0 (SeeFlags n), m.1))
    × (has_cancel (flags_of m.0.steps) ≡ true → has_cancel n ≡ true) × (has_refusal (flags_of m.0.steps) ≡ true → has_refusal n ≡ true)

-- who has cancelled before finds flag 1
abbrev pub cancelled : Told
cancelled st m n w = (w ≡ (more m.0 (Cancel n), m.1)) × (0 < view_cancels m.0 → has_cancel n ≡ true)

-- the receiving end finds flag 2 exactly where it has refused before
abbrev pub refused : Told
refused st m n w = (w ≡ (more m.0 (Refuse n), m.1)) × (has_refusal n ≡ is_refused m.0.steps)
