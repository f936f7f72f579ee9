-- Credits of an empty queue, and where more was taken.
use Rattle.std.proofs.Common.{◌≡◌, ℕ, ◌+◌, ◌-◌, ◌*◌, ◌/◌, ◌≤◌, ◌<◌, min, arith}
use Rattle.std.proofs.Math.Nat.{div-mul-le_self, le-div_iff_mul-le, mul-le-mul_left, zero-div}
use Rattle.rsx_demand.specs.declared.TheConstants.{UNBOUNDED}
use Rattle.rsx_prefetch.specs.declared.TheConstants.{LARGEST}
use Rattle.rsx_prefetch.specs.Credits.{batch, credits}

-- an empty queue lets all that it can hold be asked for
pub whole_capacity : (p : ℕ) → p ≤ LARGEST → credits p 0 ≡ p
whole_capacity p le = rw (zero-div (p - p / 4)) (omega arith)

batch-positive : (p : ℕ) → 1 ≤ p → 0 < batch p
batch-positive p h = omega arith

batch-within : (p : ℕ) → batch p ≤ p
batch-within p = omega arith

more_than : (p b c : ℕ) → 0 < b → b ≤ p → c < UNBOUNDED → c < min UNBOUNDED (p + b * (c / b))
more_than p b c h le lt = omega arith

-- where all that was put in was taken out, more is credited than that
pub credits-more : (p c : ℕ) → 1 ≤ p → c < UNBOUNDED → c < credits p c
credits-more p c h lt = more_than p (batch p) c (batch-positive p h) (batch-within p) lt

-- as many whole batches were taken
batches-mono : (b s t : ℕ) → 0 < b → s ≤ t → s / b ≤ t / b
batches-mono b s t h below = (le-div_iff_mul-le h).1 (omega (arith, div-mul-le_self s b, below))

-- where more was taken, no less is credited
pub credits-mono : (p s t : ℕ) → 1 ≤ p → s ≤ t → credits p s ≤ credits p t
credits-mono p s t h below =
    let more : batch p * (s / batch p) ≤ batch p * (t / batch p)
    = mul-le-mul_left (batch p) (batches-mono (batch p) s t (batch-positive p h) below)
    in omega (arith, more)
