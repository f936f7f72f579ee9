-- What the functions of integers answer.
use Rattle.std.specs.Prelude.{ℕ, ℤ, pos, ◌+ℤ◌, List, [], ◌∷◌, Result, Ok, Err, if◌then◌else◌}
use Rattle.rsx_demo.specs.Demo.{fits_i64}

-- the sum, or fault 1 where it leaves the type
abbrev pub sum_of : ℤ → ℤ → Result ℤ ℕ
sum_of a x = if fits_i64 (a +ℤ x) then Ok (a +ℤ x) else Err 1

-- the first number of a list, or 0
abbrev pub first_of : List ℤ → ℤ
first_of [] = pos 0
first_of (x ∷ xs) = x
