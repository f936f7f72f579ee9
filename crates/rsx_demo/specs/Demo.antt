-- What the functions of the demonstration answer. Each has a number; faults are 1 where a result leaves the type i64,
-- 2 for an item of the wrong kind, 3 for an expansion of more than 1,024 items, and 4 for a number that isn't listed.
use Rattle.std.specs.Prelude.{ℕ, ℤ, pos, negsuc, ◌+◌, ◌+ℤ◌, ◌%◌, ◌^◌, ◌==◌, Bool, true, false, List, [], ◌∷◌, map, Result, Ok, Err, if◌then◌else◌, nat_lt, neg_ℤ, unsigned_abs, int_lt}
use Rattle.std.specs.List.{range_with_len}
use Rattle.std.specs.Int.{int_max, int_rem_euclid, cast_unsigned, cast_signed, w64}
use Rattle.rsx_types.specs.Meaning.{Meaning, Allocates}
use Rattle.rsx_types.specs.declared.fault.Fault.{Fault}
use Rattle.rsx_types.specs.declared.fault.Fault.TheVariants.{Code}
use Rattle.rsx_types.specs.declared.limits.TheConstants.{MOST_ITEMS}
use Rattle.rsx_demo.specs.declared.val.Val.{Val}
use Rattle.rsx_demo.specs.declared.val.Val.TheVariants as is
use Rattle.rsx_demo.specs.Data.{data_len}
use Rattle.rsx_demo.specs.Items.{data_of}

-- an answer that takes no memory
abbrev pub exactly : {A : Type 0} → Result A ℕ → Result A Fault
exactly (Ok y) = Ok y
exactly (Err c) = Err (Code c)

-- whether a number is of type i64
abbrev pub fits_i64 : ℤ → Bool
fits_i64 (pos n) = nat_lt n (2 ^ 63)
fits_i64 (negsuc n) = nat_lt n (2 ^ 63)

-- the item of a number
abbrev pub number_item : ℤ → Result Val ℕ
number_item z = if fits_i64 z then Ok (is.Int z) else Err 1

-- what a function of numbers answers for an item
abbrev pub of_number : {A : Type 0} → (ℤ → Result A ℕ) → Val → Result A ℕ
of_number f (is.Int z) = f z
of_number f (is.List d) = Err 2

-- what a function of two numbers answers for an accumulation and an item
abbrev pub both_numbers : {A : Type 0} → (ℤ → ℤ → Result A ℕ) → Val → Val → Result A ℕ
both_numbers f (is.Int n) x = of_number (f n) x
both_numbers f (is.List d) x = Err 2

-- the length of a list
abbrev pub size_of : Val → Result Val ℕ
size_of (is.Int z) = Err 2
size_of (is.List d) = number_item (pos (data_len d))

-- 1 adds one, 2 doubles, 3 negates, 4 is the length of a list
abbrev pub mapped_by : ℕ → Val → Result Val ℕ
mapped_by f x =
    if f == 1 then of_number (λ z. number_item (z +ℤ pos 1)) x
    else (if f == 2 then of_number (λ z. number_item (z +ℤ z)) x
    else (if f == 3 then of_number (λ z. number_item (neg_ℤ z)) x
    else (if f == 4 then size_of x
    else Err 4)))

-- 1 is whether a number is even, 2 whether it is above 0
abbrev pub tested_by : ℕ → Val → Result Bool ℕ
tested_by f x =
    if f == 1 then of_number (λ z. Ok (unsigned_abs z % 2 == 0)) x
    else (if f == 2 then of_number (λ z. Ok (int_lt (pos 0) z)) x
    else Err 4)

-- 1 is the sum, 2 the greater of two numbers
abbrev pub folded_by : ℕ → Val → Val → Result Val ℕ
folded_by f a x =
    if f == 1 then both_numbers (λ n z. number_item (n +ℤ z)) a x
    else (if f == 2 then both_numbers (λ n z. Ok (is.Int (int_max n z))) a x
    else Err 4)

-- 1 is the remainder by 3: 0, 1 or 2; 2 is the number's 64 bits
abbrev pub keyed_by : ℕ → Val → Result ℕ ℕ
keyed_by f x =
    if f == 1 then of_number (λ z. Ok (unsigned_abs (int_rem_euclid z (pos 3)))) x
    else (if f == 2 then of_number (λ z. Ok (cast_unsigned w64 z)) x
    else Err 4)

-- the numbers from 1 to z
abbrev pub up_to : ℤ → Result (List Val) ℕ
up_to (pos n) = if nat_lt MOST_ITEMS n then Err 3 else Ok (map (λ k. is.Int (pos (k + 1))) (range_with_len 0 n))
up_to (negsuc n) = Ok []

-- 1 is the numbers from 1 on, 2 is the number twice
abbrev pub expanded_by : ℕ → Val → Result (List Val) ℕ
expanded_by f x =
    if f == 1 then of_number up_to x
    else (if f == 2 then of_number (λ z. Ok (is.Int z ∷ is.Int z ∷ [])) x
    else Err 4)

-- the list of these items
abbrev pub list_item : List Val → Val
list_item xs = is.List (data_of xs)

-- what the functions of the demonstration mean
abbrev pub demo_meaning : Meaning Val
demo_meaning = record {
  mapped = mapped_by;
  tested = tested_by;
  folded = folded_by;
  keyed = keyed_by;
  expanded = expanded_by;
  row_of = list_item;
  list_of = list_item;
  tagged = λ key x. list_item (is.Int (cast_signed w64 key) ∷ x ∷ []);
  number = λ z. is.Int z;
}

-- a new list and a copy of a list take memory, and a number takes none
abbrev pub demo_allocates : Allocates
demo_allocates = record {
  mapped = false;
  tested = false;
  folded = false;
  keyed = false;
  expanded = true;
  row_of = true;
  list_of = true;
  tagged = true;
  copied = true;
  number = false;
}
