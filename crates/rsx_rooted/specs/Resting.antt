-- A node that rests: neither a step of it nor a Send over its edge is enabled.
use Rattle.std.specs.Prelude.{◌≡◌, ℕ, ◌<◌, ◌^◌, nat_lt, Bool, true, false, Option, None, Some, option_map}
use Rattle.rsx_types.specs.Meaning.{Meaning}
use Rattle.rsx_sources.specs.Machine.{front_of}
use Rattle.rsx_sources.specs.declared.machine.Machine.{Ghosts as Machine}
use Rattle.rsx_sources.specs.declared.machine.Front.{Front}
use Rattle.rsx_sources.specs.declared.machine.Front.TheVariants.{Item, Completion, Failure}

-- over a live edge of which so much is asked, and which carried so many items, this can go
abbrev pub may_go : ℕ → ℕ → Option Front → Bool
may_go asked sent None = false
may_go asked sent (Some Item) = nat_lt sent asked
may_go asked sent (Some Completion) = true
may_go asked sent (Some (Failure c)) = true

-- a node with such a live edge can make no step, and nothing that it offers can go over the edge; it wants so much of its first input
pub record IsAtRest {M T : Type 0} (b : Machine M T) (n : M) (asked sent want : ℕ) : Type 0 where
  pub wants : want ≡ b.wanted n 0 asked sent
  pub stays : (m : Meaning T) → may_go asked sent (option_map front_of (b.waiting m n)) ≡ false
  pub picks : (i : ℕ) → i < 2 ^ 64 → b.picks n i asked sent ≡ false
  pub rows : b.rows n asked sent ≡ false
