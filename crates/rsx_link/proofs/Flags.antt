-- The word of the flags.
use Rattle.std.proofs.Common.{◌≡◌, ℕ, zero, suc, ◌<◌, Bool, true, false, refl, arith, bit_or}
use Rattle.rsx_link.specs.Link.{flags, is_positive}
use Rattle.rsx_link.specs.Steps.{has_cancel, has_refusal}

pub or_one : (c b : Bool) → bit_or (flags c b) 1 ≡ flags true b
or_one true true = refl
or_one true false = refl
or_one false true = refl
or_one false false = refl

pub or_two : (c b : Bool) → bit_or (flags c b) 2 ≡ flags c true
or_two true true = refl
or_two true false = refl
or_two false true = refl
or_two false false = refl

pub has_cancel-flags : (c b : Bool) → has_cancel (flags c b) ≡ c
has_cancel-flags true true = refl
has_cancel-flags true false = refl
has_cancel-flags false true = refl
has_cancel-flags false false = refl

pub has_refusal-flags : (c b : Bool) → has_refusal (flags c b) ≡ b
has_refusal-flags true true = refl
has_refusal-flags true false = refl
has_refusal-flags false true = refl
has_refusal-flags false false = refl

pub positive : (n : ℕ) → 0 < n → is_positive n ≡ true
positive zero h = absurd (omega arith)
positive (suc n) h = refl

pub above_zero : (n : ℕ) → is_positive n ≡ true → 0 < n
above_zero zero h = cc
above_zero (suc n) h = omega arith
