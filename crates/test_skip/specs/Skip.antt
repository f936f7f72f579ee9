-- How many items came in and how many were put out, and how many are asked for.
use Rattle.std.specs.Prelude.{◌≡◌, ℕ, zero, suc, ◌+◌, ◌<◌, min, [], drop, refl}
use Rattle.std.proofs.Common.{arith}
use Rattle.rsx_demand.specs.declared.TheConstants.{UNBOUNDED}
use Rattle.test_skip.specs.declared.skip.Skip.{Skip}

-- the items that came in are those that were left out and those that were put out
abbrev pub balanced : {T : Type 0} → Skip T → ℕ → ℕ → Type 0
balanced s taken put = taken + s.left ≡ put + s.count

-- as many more than are asked of it as it leaves out
abbrev pub wanted : {T : Type 0} → Skip T → ℕ → ℕ
wanted s asked = min UNBOUNDED (asked + s.count)

pub nothing : {T : Type 0} (n : ℕ) → drop {A = T} n [] ≡ []
nothing zero = refl
nothing (suc n) = refl

pub wants_more : {T : Type 0} (s : Skip T) (taken put asked : ℕ) → balanced s taken put → put < asked → taken < UNBOUNDED → taken < wanted s asked
wants_more s taken put asked all more few = omega (arith, all, more, few)
